-- What appending, keeping and filling whole blocks does to the value at every index.
use Rattle.std.proofs.Common.{◌≡◌, ℕ, ◌+◌, ◌-◌, ◌/◌, ◌%◌, ◌^◌, ◌<◌, ◌≤◌, Bool, false, ◌&&◌, ◌||◌, nat_lt, nat_le, List, []}
use Rattle.std.proofs.Common.{◌∷◌, ◌++◌, map, length, get_or, take, replicate, refl, ap, ◌∙◌, arith, append_assoc, mod-lt}
use Rattle.std.{proofs.Common.{get_or-take, set, ◌≢◌, get_or-set_same, get_or-set_other, ⊎_elim}, specs.Global.Vec}
use Rattle.std.proofs.lemmas.{Bool.{cases_lt, Decides.nat_tests}, List.{length-append, map-append, take_more}}
use Rattle.std.proofs.lemmas.List.{get_or_append_left, get_or-append_right, get_or_past, get_or-replicate, length-replicate}
use Rattle.std.proofs.lemmas.Grind.{replicate_next}
use Rattle.bit_blocks.{specs.Bits.blocks_for, proofs.{Masks.{is_one-ones, is_one-zero}, BitsLemmas.blocks_for-above}}
use Rattle.bit_blocks.specs.Storage.{value_at, FillsFirst, IsPacked, IsZeroFrom, WritesInPlace, WritesValue}
use Rattle.bit_blocks.proofs.{StorageLemmas.{value_at-is, value_at-past}, ChangeLemmas.{div_lt, nat_lt-indexes}}

-- ---- whole blocks

pub value_at-take : (w c : ℕ) (ms : List ℕ) (i : ℕ) → i / w < c → value_at w (take c ms) i ≡ value_at w ms i
value_at-take w c ms i h = grind (arith, value_at-is, get_or-take)

pub value_at-append_zeros : (w : ℕ) (ms : List ℕ) (m n i : ℕ) → n ≡ 0 → length ms ≤ i / w → value_at w (ms ++ replicate m n) i ≡ false
value_at-append_zeros w ms m n i e past = grind (arith, value_at-is, get_or-append_right, get_or-replicate, get_or_past, is_one-zero, length-append, length-replicate)

pub map-pushed : {X : Type 0} (f : X → ℕ) (xs ys : List X) (x : X) → ys ≡ xs ++ x ∷ [] → map f ys ≡ map f xs ++ f x ∷ []
map-pushed f xs ys x e = ap (map f) e ∙ map-append f xs (x ∷ [])

-- one copy more, after k - len of them
pub copy_pushed : {X : Type 0} (f : X → ℕ) (xs ys zs : List X) (len k : ℕ) (x : X) → len ≤ k
    → map f ys ≡ map f xs ++ replicate (k - len) (f x) → zs ≡ ys ++ x ∷ [] → map f zs ≡ map f xs ++ replicate (k + 1 - len) (f x)
copy_pushed f xs ys zs len k x h before e = grind (arith, map-pushed f ys zs x e, before, append_assoc, replicate_next)

-- one block more of those of another list, after i of them
pub block_pushed : {X : Type 0} (old more xs ys : List X) (i : ℕ) (x : X) → i < length more → x ≡ get_or more i x → xs ≡ old ++ take i more → ys ≡ xs ++ x ∷ [] → ys ≡ old ++ take (i + 1) more
block_pushed old more xs ys i x within is before pushed = grind (arith, pushed, before, append_assoc, take_more more i x within, is)

-- ---- blocks of ones up to a length

-- the whole blocks are ones, the block at which the values end has those below its place, and there are zeros past it
ones_up_to : (w : ℕ) (rs : List ℕ) (len i : ℕ) → 0 < w → (i / w < len / w → get_or rs (i / w) 0 ≡ 2 ^ w - 1)
    → (i / w ≡ len / w → get_or rs (i / w) 0 ≡ 2 ^ (len % w) - 1) → (len / w < i / w → get_or rs (i / w) 0 ≡ 0)
    → value_at w rs i ≡ nat_lt i len
ones_up_to w rs len i pos whole cut past =
    let ones = is_one-ones (2 ^ w - 1) w (i % w) refl in
    let cut_ones = is_one-ones (2 ^ (len % w) - 1) (len % w) (i % w) refl in
    value_at-is w rs i ∙ grind (arith, nat_tests, ones, cut_ones, is_one-zero (i % w), div_lt w i len pos, div_lt w len i pos, nat_lt-indexes w i len, whole, cut, past, mod-lt i pos)

-- ---- appending blocks of ones

pub none_pushed : (w : ℕ) (ms : List ℕ) (len i : ℕ) → 0 < w → len / w < length ms → length ms ≤ i / w → value_at w ms i ≡ nat_lt i len
none_pushed w ms len i pos h past = grind (arith, nat_tests, value_at-past w ms i past, div_lt w len i pos)

pushed_block : (ms rs : List ℕ) (count n q : ℕ) → rs ≡ ms ++ replicate count n → length ms ≤ q → q < length ms + count → get_or rs q 0 ≡ n
pushed_block ms rs count n q e past within = grind (arith, e, get_or-append_right, get_or-replicate)

length-pushed : (ms rs : List ℕ) (count n : ℕ) → rs ≡ ms ++ replicate count n → length rs ≡ length ms + count
length-pushed ms rs count n e = rw (e, length-append, length-replicate) refl

pub whole_pushed : (w : ℕ) (ms rs : List ℕ) (len count n i : ℕ) → 0 < w → len % w ≡ 0 → length ms + count ≡ len / w
    → n ≡ 2 ^ w - 1 → rs ≡ ms ++ replicate count n → length ms ≤ i / w → value_at w rs i ≡ nat_lt i len
whole_pushed w ms rs len count n i pos z total ones e past =
    ones_up_to w rs len i pos (λ before. grind (arith, pushed_block ms rs count n (i / w) e past))
    (λ here. grind (arith, get_or_past, length-pushed ms rs count n e)) (λ beyond. grind (arith, get_or_past, length-pushed ms rs count n e))

pub cut_pushed : (w : ℕ) (ms rs us : List ℕ) (len count m n i : ℕ) → 0 < w → length ms + count ≡ len / w → n ≡ 2 ^ w - 1
    → rs ≡ ms ++ replicate count n → m ≡ 2 ^ (len % w) - 1 → us ≡ rs ++ m ∷ [] → length ms ≤ i / w
    → value_at w us i ≡ nat_lt i len
cut_pushed w ms rs us len count m n i pos total ones e cut f past =
    let size = length-pushed ms rs count n e in
    let all = length-pushed rs us 1 m f in
    ones_up_to w us len i pos
    (λ before. grind (arith, f, get_or_append_left, pushed_block ms rs count n (i / w) e past, ones))
    (λ here. pushed_block rs us 1 m (i / w) f (omega arith) (omega arith) ∙ cut)
    (λ beyond. get_or_past us (i / w) 0 (omega arith))

pub kept_below : (w : ℕ) (ms rs : List ℕ) (count n i : ℕ) → rs ≡ ms ++ replicate count n → i / w < length ms → value_at w rs i ≡ value_at w ms i
kept_below w ms rs count n i e within = grind (arith, e, value_at-is, get_or_append_left)

-- ---- a longer list: its old last block raised, and blocks of ones after it

pub ones_kept : (w : ℕ) (ms rs us : List ℕ) (old len size : ℕ) → 0 < w → size ≡ blocks_for w old
    → ((i : ℕ) → i / w < size → value_at w rs i ≡ (value_at w ms i || (nat_lt i len && nat_le old i)))
    → ((i : ℕ) → i / w < size → value_at w us i ≡ value_at w rs i) → (i : ℕ) → i < old → value_at w us i ≡ value_at w ms i
ones_kept w ms rs us old len size pos count raised kept i below = grind (arith, nat_tests, blocks_for-above w old i pos below, kept i, raised i)

pub ones_added : (w : ℕ) (ms rs us : List ℕ) (old len size : ℕ) → IsZeroFrom w ms old
    → ((i : ℕ) → i / w < size → value_at w rs i ≡ (value_at w ms i || (nat_lt i len && nat_le old i)))
    → ((i : ℕ) → i / w < size → value_at w us i ≡ value_at w rs i)
    → ((i : ℕ) → size ≤ i / w → value_at w us i ≡ nat_lt i len) → (i : ℕ) → old ≤ i → value_at w us i ≡ nat_lt i len
ones_added w ms rs us old len size tail raised kept added i after = grind (arith, nat_tests, kept i, raised i, added i, tail.zero_tail i)

-- ---- appending zeros

pub zeros_kept : (w : ℕ) (ms rs : List ℕ) (old m n : ℕ) → 0 < w → length ms ≡ blocks_for w old → rs ≡ ms ++ replicate m n → (i : ℕ) → i < old → value_at w rs i ≡ value_at w ms i
zeros_kept w ms rs old m n pos count e i below = kept_below w ms rs m n i e (omega (arith, blocks_for-above w old i pos below))

pub zeros_added : (w : ℕ) (ms rs : List ℕ) (old m n : ℕ) → IsZeroFrom w ms old → n ≡ 0 → rs ≡ ms ++ replicate m n → (i : ℕ) → old ≤ i → value_at w rs i ≡ false
zeros_added w ms rs old m n tail z e i after = grind (arith, e, kept_below w ms rs m n i e, value_at-append_zeros w ms m n i z, tail.zero_tail i)

-- ---- keeping the first blocks

pub cut_kept : (w : ℕ) (ms rs us : List ℕ) (len c : ℕ) → 0 < w → c ≡ blocks_for w len → rs ≡ take c ms
    → ((i : ℕ) → value_at w us i ≡ (nat_lt i len && value_at w rs i)) → (i : ℕ) → i < len → value_at w us i ≡ value_at w ms i
cut_kept w ms rs us len c pos count e lowered i below = grind (arith, nat_tests, blocks_for-above w len i pos below, lowered i, value_at-take w c ms i, e)

-- ---- every value written in place

-- past the blocks there was nothing, and nothing comes
unwritten : (ms rs : List ℕ) (c n q : ℕ) → FillsFirst ms rs c n → c ≤ q → length ms ≤ q → get_or rs q 0 ≡ 0
unwritten ms rs c n q fills from past = grind (arith, fills.others q, get_or_past)

-- one more block that became n
pub fills_more : (ms ns rs : List ℕ) (i n : ℕ) → i < length ns → rs ≡ set ns i n → FillsFirst ms ns i n → FillsFirst ms rs (i + 1) n
fills_more ms ns rs i n within put is = record {
  filled = λ k below.
      ap (λ xs. get_or xs k 0) put
      ∙ ⊎_elim
      (λ (low : k < i). (let other : k ≢ i = omega arith in get_or-set_other ns i k n 0 other) ∙ is.filled k low)
      (λ (late : i ≤ k). let here : k ≡ i = omega arith in ap (λ j. get_or (set ns i n) j 0) here ∙ get_or-set_same ns i n 0 within)
      (cases_lt k i);
  others = λ k past. ap (λ xs. get_or xs k 0) put ∙ (let other : k ≢ i = omega arith in get_or-set_other ns i k n 0 other) ∙ is.others k (omega arith);
}

pub whole_filled : (w : ℕ) (ms rs : List ℕ) (len n : ℕ) → 0 < w → length ms ≡ blocks_for w len → len % w ≡ 0 → n ≡ 2 ^ w - 1 → FillsFirst ms rs (len / w) n → (i : ℕ) → value_at w rs i ≡ nat_lt i len
whole_filled w ms rs len n pos count z ones fills i =
    ones_up_to w rs len i pos (λ before. fills.filled (i / w) before ∙ ones)
    (λ here. grind (arith, unwritten ms rs (len / w) n (i / w) fills))
    (λ beyond. grind (arith, unwritten ms rs (len / w) n (i / w) fills))

pub cut_filled : (w : ℕ) (ms rs us : List ℕ) (len m n : ℕ) → 0 < w → length ms ≡ blocks_for w len → length rs ≡ length ms
    → len % w ≢ 0 → n ≡ 2 ^ w - 1 → FillsFirst ms rs (len / w) n → m ≡ 2 ^ (len % w) - 1 → us ≡ set rs (len / w) m → (i : ℕ)
    → value_at w us i ≡ nat_lt i len
cut_filled w ms rs us len m n pos count size nz ones fills cut e i =
    ones_up_to w us len i pos
    (λ before. grind (arith, e, get_or-set_other, fills.filled (i / w) before, ones))
    (λ here. grind (arith, e, get_or-set_same, cut))
    (λ beyond. grind (arith, e, get_or-set_other, unwritten ms rs (len / w) n (i / w) fills))

pub zeros_filled : (w : ℕ) (ms rs : List ℕ) (n : ℕ) → n ≡ 0 → FillsFirst ms rs (length ms) n → (i : ℕ) → value_at w rs i ≡ false
zeros_filled w ms rs n z fills i = grind (arith, value_at-is, is_one-zero, fills.filled (i / w), unwritten ms rs (length ms) n (i / w) fills)

-- a list of which one value is written
pub replaced_packed : {X : Type 0} (w n i : ℕ) (f : X → ℕ) (P : X → Type 0) (xs ys : Vec X) (b : Bool) → i < n
    → IsPacked w f P xs.items n → WritesValue w (map f xs.items) (map f ys.items) i b → WritesInPlace P xs ys
    → IsPacked w f P ys.items n
replaced_packed w n i f P xs ys b within packed value in_place = record {
  each = in_place.each;
  count = omega (arith, xs.ok.0, ys.ok.0, in_place.len, packed.count);
  tail = record { zero_tail = λ j past. value.others j (λ e. omega arith) ∙ packed.tail.zero_tail j past };
  fits = packed.fits;
}
