-- What a copy of the tail of a list holds, by index, and what its summary says.
use Rattle.std.proofs.Common.{◌≡◌, ◌≢◌, ℕ, ◌+◌, ◌-◌, ◌/◌, ◌%◌, ◌^◌, ◌<◌, ◌≤◌, false, ◌&&◌, nat_le, List, [], ◌++◌, map}
use Rattle.std.proofs.Common.{length, get_or, set, take, drop, replicate, All, sym, ap, ap₂, ◌∙◌, arith, mod-lt}
use Rattle.std.proofs.{Common.{length-append, take_all, div-lt_iff_lt-mul, ◌*◌}, lemmas.Bool.Decides.nat_tests}
use Rattle.std.proofs.lemmas.List.{Elements.{All-same, All-append, All-drop}, drop-map, map-append, get_or-drop}
use Rattle.std.proofs.lemmas.List.{get_or-replicate, get_or_append_left, get_or-append_right, length-replicate}
use Rattle.std.proofs.lemmas.List.{length-drop}
use Rattle.bit_blocks.specs.{Digits.is_one, Storage.{value_at, values_of, IsPacked, is_used}}
use Rattle.bit_blocks.proofs.BitsLemmas.{index_below}
use Rattle.bit_blocks.proofs.ChangeLemmas.{nat_le-indexes, div_lt, read_at, written_same, written_other}
use Rattle.bit_blocks.proofs.{Masks.is_one-zero, StorageLemmas.{value_at-is, values_of-same, length-values_of, get_or-values_of}, UseLemmas.{same_use, unused_from_false}}

-- a slice from an index to the end
rest_sliced : {X : Type 0} (n : ℕ) (xs : List X) → take (length xs - n) (drop n xs) ≡ drop n xs
rest_sliced n xs = take_all (length xs - n) (drop n xs) (omega (arith, length-drop n xs))

-- zeros, and the blocks past them
pub tail_copied : {X : Type 0} (f : X → ℕ) (xs es ps ns : List X) (count len z : ℕ) → es ≡ [] → len ≡ 0 → z ≡ 0
    → map f ps ≡ map f es ++ replicate (count - len) z → ns ≡ ps ++ take (length xs - count) (drop count xs)
    → map f ns ≡ replicate count 0 ++ drop count (map f xs)
tail_copied f xs es ps ns count len z none start zero zeros more =
    let from : count - len ≡ count = omega arith in
    ap (map f) (more ∙ ap (λ ss. ps ++ ss) (rest_sliced count xs))
    ∙ map-append f ps (drop count xs)
    ∙ ap₂ (λ a b. a ++ b)
    (zeros ∙ ap₂ (λ e n. map f e ++ replicate n z) none from ∙ ap (λ n. replicate count n) zero)
    (sym (drop-map f count xs))

pub tail_each : {X : Type 0} (P : X → Type 0) (xs ps ns : List X) (count : ℕ) → All P xs → All P ps → ns ≡ ps ++ take (length xs - count) (drop count xs) → All P ns
tail_each P xs ps ns count each first more =
    All-same P ns (ps ++ drop count xs) (more ∙ ap (λ ss. ps ++ ss) (rest_sliced count xs)) (All-append P ps (drop count xs) first (All-drop P count xs each))

block_before : (ms ns : List ℕ) (count k : ℕ) → ns ≡ replicate count 0 ++ drop count ms → k < count → get_or ns k 0 ≡ 0
block_before ms ns count k e h = grind (arith, e, get_or_append_left, length-replicate, get_or-replicate)

block_from : (ms ns : List ℕ) (count k : ℕ) → ns ≡ replicate count 0 ++ drop count ms → count ≤ k → get_or ns k 0 ≡ get_or ms k 0
block_from ms ns count k e h = grind (arith, e, get_or-append_right, length-replicate, get_or-drop)

value_before : (w : ℕ) (ms ns : List ℕ) (count at i : ℕ) → 0 < w → ns ≡ replicate count 0 ++ drop count ms → count ≡ at / w → i / w < count → value_at w ns i ≡ (nat_le at i && value_at w ms i)
value_before w ms ns count at i pos e c h = grind (arith, nat_tests, div_lt w i at pos, value_at-is w ns i, block_before ms ns count (i / w) e h, is_one-zero)

value_from : (w : ℕ) (ms ns : List ℕ) (count i : ℕ) → ns ≡ replicate count 0 ++ drop count ms → count ≤ i / w → value_at w ns i ≡ value_at w ms i
value_from w ms ns count i e h = grind (arith, value_at-is, block_from ms ns count (i / w) e h)

value_past : (w : ℕ) (ms ns : List ℕ) (count at i : ℕ) → 0 < w → ns ≡ replicate count 0 ++ drop count ms → count ≡ at / w → at / w < i / w → value_at w ns i ≡ (nat_le at i && value_at w ms i)
value_past w ms ns count at i pos e c h = grind (arith, nat_tests, div_lt w at i pos, value_from w ms ns count i e)

-- where the tail begins with a whole block
pub tail_whole : (w : ℕ) (ms ns : List ℕ) (count at : ℕ) → 0 < w → ns ≡ replicate count 0 ++ drop count ms → count ≡ at / w → at % w ≡ 0 → (i : ℕ) → value_at w ns i ≡ (nat_le at i && value_at w ms i)
tail_whole w ms ns count at pos e c whole i =
    grind (arith, nat_tests, value_before w ms ns count at i pos e c, value_from w ms ns count i e, nat_le-indexes w at i, value_past w ms ns count at i pos e c)

-- where its first block is cut
pub tail_cut : (w : ℕ) (ms ns rs : List ℕ) (k at p m n : ℕ) → 0 < w → ns ≡ replicate k 0 ++ drop k ms → k ≡ at / w
    → p ≡ at % w → k < length ns → m ≡ get_or ms k 0 → rs ≡ set ns k n
    → ((j : ℕ) → j < w → is_one n j ≡ (nat_le p j && is_one m j)) → (i : ℕ) → value_at w rs i ≡ (nat_le at i && value_at w ms i)
tail_cut w ms ns rs k at p m n pos e ke pe within read put digits i =
    let before = value_before w ms ns k at i pos e ke in
    let past = value_past w ms ns k at i pos e ke in
    grind (arith, nat_tests, before, past, written_same w ns rs k n i put within, digits (i % w), mod-lt i pos, nat_le-indexes w at i, read_at w ms k m i read, written_other w ns rs k n i put)

-- ---- the copy of a list

pub tail_packed : {X : Type 0} (w n at : ℕ) (f : X → ℕ) (P : X → Type 0) (xs ys : List X) → IsPacked w f P xs n → All P ys
    → length ys ≡ length xs → ((i : ℕ) → value_at w (map f ys) i ≡ (nat_le at i && value_at w (map f xs) i)) → IsPacked w f P ys n
tail_packed w n at f P xs ys packed each len values = grind (arith, nat_tests, values, packed.tail.zero_tail, packed.count, packed.fits)

pub values_of-tail : (w : ℕ) (ms ns : List ℕ) (n at : ℕ) → at ≤ n → ((i : ℕ) → value_at w ns i ≡ (nat_le at i && value_at w ms i)) → values_of w ns n ≡ replicate at false ++ drop at (values_of w ms n)
values_of-tail w ms ns n at h values =
    values_of-same w ns n _ (omega (arith, h, length-append (replicate at false) (drop at (values_of w ms n)), length-replicate at false, length-drop at (values_of w ms n), length-values_of w ms n))
    (λ i below.
    grind (arith, nat_tests, values i, get_or_append_left, get_or-append_right, get_or-replicate, length-replicate, get_or-drop, get_or-values_of))

-- ---- and of its summary

block_above : (w q at j : ℕ) → 0 < w → at / w < q → at < q * w + j
block_above w q at j pos h = let a = (div-lt_iff_lt-mul pos).0 h in omega arith

-- the blocks before that of the index are 0
pub tail_unused : (w at q : ℕ) (ms ns : List ℕ) → get_or ns q 0 < 2 ^ w → ((i : ℕ) → value_at w ns i ≡ (nat_le at i && value_at w ms i)) → q < at / w → is_used ns q ≡ false
tail_unused w at q ms ns small values before = unused_from_false w ns q small (λ j index. grind (arith, nat_tests, values (q * w + j), index_below w q j at index before))

-- those past it are as they were
pub tail_kept : (w at q : ℕ) (ms ns : List ℕ) → 0 < w → get_or ms q 0 < 2 ^ w → get_or ns q 0 < 2 ^ w
    → ((i : ℕ) → value_at w ns i ≡ (nat_le at i && value_at w ms i)) → at / w < q → is_used ms q ≡ is_used ns q
tail_kept w at q ms ns pos small also values after = same_use w ms ns q small also (λ j index. grind (arith, nat_tests, block_above w q at j pos after, values (q * w + j)))

-- what a copy of a summary's tail says of the blocks
pub tail_use : (w k q : ℕ) (ms ss cs : List ℕ) → ((i : ℕ) → value_at w cs i ≡ (nat_le k i && value_at w ss i))
    → ((p : ℕ) → p < k → is_used ms p ≡ false) → ((p : ℕ) → k < p → value_at w ss p ≡ is_used ms p) → q ≢ k
    → value_at w cs q ≡ is_used ms q
tail_use w k q ms ss cs values before after other = grind (arith, nat_tests, values q, before q, after q)
