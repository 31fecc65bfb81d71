-- What the summary says of the blocks, and how it follows their changes.
use Rattle.std.proofs.Common.{◌≡◌, ◌≢◌, ℕ, ◌+◌, ◌*◌, ◌/◌, ◌%◌, ◌^◌, ◌<◌, ◌≤◌, Bool, true, false, List, [], map, length, get_or, set, All, sym, ap, ◌∙◌, arith, ⊎_elim, mod-lt, div-add-mod'}
use Rattle.std.proofs.Common.{get_or-set_same, get_or-set_other, mul-le-mul_right}
use Rattle.std.{proofs.lemmas.{Bool.cases_lt, List.{length-map, Elements.All-nil}, Nat.div-mul-add}, specs.Global.Vec}
use Rattle.bit_blocks.specs.{Bits.{Bits, blocks_for}, Digits.is_one, Storage.{value_at, values_of, IsPacked, WritesInPlace, WritesValue, is_used}}
use Rattle.bit_words.specs.Summary.{shared_capacity, short_count, stored_for, IsSummary}
use Rattle.bit_blocks.proofs.BitsLemmas.{blocks_for-below, blocks_for-enough, blocks_for-le, whole_before}
use Rattle.bit_words.{specs.Summary.{IsStoredSummary, IsStoredList}, proofs.CapacityLemmas.{shared_enough, stored_long, stored_short}}
use Rattle.bit_blocks.proofs.{StorageLemmas.{value_at-index, value_at-is, value_at-past}, VectorLemmas.{blocks_for-none, length_from_view}}
use Rattle.bit_blocks.proofs.VectorLemmas.{numbers_below, packed_nil}
use Rattle.bit_blocks.proofs.UseLemmas.{used_past, used_from_true, unused_from_false, same_use}

-- where the blocks begin that block q of the summary of n blocks is about
pub chunk_begins : (w bits n q : ℕ) → 0 < w → bits ≡ w → q < blocks_for w n → q * bits < n
chunk_begins w bits n q pos e within = rw e (whole_before w n q pos within)

-- it is enough to look where there are blocks
pub is_summary : {X : Type 0} (w : ℕ) (f : X → ℕ) (P : X → Type 0) (xs summary : List X) → IsPacked w f P summary (length xs)
    → ((k : ℕ) → k < length xs → value_at w (map f summary) k ≡ is_used (map f xs) k) → IsSummary w f P xs summary
is_summary w f P xs summary packed each = record { packed = packed; digit = λ k. grind (arith, each k, packed.tail.zero_tail k, used_past (map f xs) k, length-map) }

-- what a stored block of the summary says of its blocks
pub stored_digits : {X : Type 0} (w : ℕ) (f : X → ℕ) (P : X → Type 0) (xs summary : List X) (q : ℕ) → IsStoredSummary w f P xs summary → q < length summary
    → (j : ℕ) → j < w → is_one (get_or (map f summary) q 0) j ≡ is_used (map f xs) (q * w + j)
stored_digits w f P xs summary q stored inside j index =
    ⊎_elim
    (λ (long : short_count w < length xs). sym (value_at-index w (map f summary) q j index) ∙ (stored.long long).digit (q * w + j))
    (λ (short : length xs ≤ short_count w). let none = ap length (stored.short short) in absurd (omega (arith, none, inside)))
    (cases_lt (short_count w) (length xs))

-- all digits at once
pub summary_of_digits : {X : Type 0} (w : ℕ) (f : X → ℕ) (P : X → Type 0) (xs summary : List X) → All P summary → length summary ≡ blocks_for w (length xs) → length xs < 2 ^ 64
    → ((k : ℕ) → value_at w (map f summary) k ≡ is_used (map f xs) k) → IsSummary w f P xs summary
summary_of_digits w f P xs summary each count fits digits = record {
  packed = record {
    each = each;
    count = count;
    tail = record { zero_tail = λ i past. digits i ∙ used_past (map f xs) i (rw length-map past) };
    fits = fits;
  };
  digit = digits;
}

-- where all were right but one, and that one is written
pub summary_updated : {X : Type 0} (w : ℕ) (f : X → ℕ) (P : X → Type 0) (xs : List X) (old new : Vec X) (p : ℕ) → p < length xs → IsPacked w f P old.items (length xs)
    → ((k : ℕ) → k < length xs → k ≢ p → value_at w (map f old.items) k ≡ is_used (map f xs) k) → WritesValue w (map f old.items) (map f new.items) p (is_used (map f xs) p)
    → WritesInPlace P old new → IsSummary w f P xs new.items
summary_updated w f P xs old new p inside packed right written in_place =
    is_summary w f P xs new.items
    (record {
      each = in_place.each;
      count = omega (arith, old.ok.0, new.ok.0, in_place.len, packed.count);
      tail = record { zero_tail = λ i past. written.others i (λ e. omega arith) ∙ packed.tail.zero_tail i past };
      fits = packed.fits;
    })
    (λ k within. grind (arith, written.same, written.others k, right k within))

-- the digits of one more block of the summary
pub summary_put : (w : ℕ) (ms ss ns : List ℕ) (start k n : ℕ) → k < length ss → ns ≡ set ss k n → ((j : ℕ) → j < w → is_one n j ≡ is_used ms (k * w + j))
    → ((q j : ℕ) → start ≤ q → q < k → j < w → is_one (get_or ss q 0) j ≡ is_used ms (q * w + j)) → (q j : ℕ) → start ≤ q → q < k + 1 → j < w
    → is_one (get_or ns q 0) j ≡ is_used ms (q * w + j)
summary_put w ms ss ns start k n within e digits before q j from below index = grind (arith, get_or-set_same ss k n 0 within, get_or-set_other ss k q n 0)

-- all of them
pub summary_of_blocks : {X : Type 0} (w : ℕ) (f : X → ℕ) (P : X → Type 0) (xs summary : List X) → 0 < w → All P summary → length summary ≡ blocks_for w (length xs) → length xs < 2 ^ 64
    → ((q j : ℕ) → q < length summary → j < w → is_one (get_or (map f summary) q 0) j ≡ is_used (map f xs) (q * w + j)) → IsSummary w f P xs summary
summary_of_blocks w f P xs summary pos each count fits digits = summary_of_digits w f P xs summary each count fits (λ k.
    let ms = map f xs in
    let ss = map f summary in
    grind (arith, value_at-is w ss k, value_at-past w ss k, used_past ms k, length-map, blocks_for-below w (length xs) k pos, mod-lt k pos, div-add-mod' k w, digits (k / w) (k % w)))

-- ---- kept with the list

pub keeps_none : {X : Type 0} (w : ℕ) (f : X → ℕ) (P : X → Type 0) (xs summary : List X) → length xs ≤ short_count w → summary ≡ [] → IsStoredSummary w f P xs summary
keeps_none w f P xs summary few none = record {
  short = λ _. none;
  long = λ many. absurd (omega arith);
}

pub keeps_all : {X : Type 0} (w : ℕ) (f : X → ℕ) (P : X → Type 0) (xs summary : List X) → short_count w < length xs → IsSummary w f P xs summary → IsStoredSummary w f P xs summary
keeps_all w f P xs summary many is = record {
  short = λ few. absurd (omega arith);
  long = λ _. is;
}

pub stored_nil : {X : Type 0} {start : ℕ} (w : ℕ) (f : X → ℕ) (P : X → Type 0) (xs summary : List X) → 0 < w → xs ≡ [] → summary ≡ [] → IsStoredList w f P xs summary 0 start
stored_nil w f P xs summary pos e s = record {
  packed = packed_nil w f P xs pos e;
  summary = record {
    short = λ _. s;
    long = λ many. let none = ap length e in absurd (omega arith);
  };
  start = λ many. let none = ap length e in absurd (omega arith);
}

-- an empty list has no blocks, and stores no summary
pub none_stored : {X : Type 0} {start : ℕ} (w n r : ℕ) (f : X → ℕ) (P : X → Type 0) (xs ss : List X)
    (v : Bits) → 0 < w → IsStoredList w f P xs ss n start → record { values = values_of w (map f xs) n; capacity = r } ≡ v → length v.values ≡ 0 → (length xs ≡ 0) × (length ss ≡ 0)
none_stored w n r f P xs ss v pos stored e none =
    let len = length_from_view w n r (map f xs) v e in
    let count : length xs ≡ 0 = stored.packed.count ∙ ap (blocks_for w) (let z : n ≡ 0 = omega (arith, len, none) in z) ∙ sym (blocks_for-none w pos) in
    (count, ap length (stored.summary.short (omega (arith, count))))

-- a summary has as many blocks as are stored
pub stored_length : {X : Type 0} (w : ℕ) (f : X → ℕ) (P : X → Type 0) (xs ss : List X) → IsStoredSummary w f P xs ss → length ss ≡ stored_for w (length xs)
stored_length w f P xs ss kept =
    ⊎_elim
    (λ (many : short_count w < length xs). (kept.long many).packed.count ∙ sym (stored_long w (length xs) many))
    (λ (few : length xs ≤ short_count w). ap length (kept.short few) ∙ sym (stored_short w (length xs) few))
    (cases_lt (short_count w) (length xs))

-- which are not more than are about all blocks
pub stored_few : {X : Type 0} (w n : ℕ) (f : X → ℕ) (P : X → Type 0) (xs ss : List X) → 0 < w → IsStoredSummary w f P xs ss → length xs ≤ n → length ss ≤ blocks_for w n
stored_few w n f P xs ss pos kept le =
    let most = blocks_for-le w (length xs) n pos le in
    ⊎_elim
    (λ (many : short_count w < length xs). omega (arith, most, (kept.long many).packed.count))
    (λ (few : length xs ≤ short_count w). let none = ap length (kept.short few) in omega (arith, none))
    (cases_lt (short_count w) (length xs))

-- there is capacity for the blocks that there are
pub stored_each : {X : Type 0} (w : ℕ) (f : X → ℕ) (P : X → Type 0) (xs ss : List X) → IsStoredSummary w f P xs ss → All P ss
stored_each w f P xs ss is = grind (arith, is.long, is.short, All-nil P)

pub stored_enough : {X : Type 0} (w : ℕ) (f : X → ℕ) (P : X → Type 0) (xs ss : List X) → 0 < w → IsStoredSummary w f P xs ss → short_count w < length xs → length xs ≤ length ss * w
stored_enough w f P xs ss pos is long =
    let whole = ap (λ k. k * w) (is.long long).packed.count in
    omega (arith, blocks_for-enough w (length xs) pos, whole)

pub stored_within : {X : Type 0} {start : ℕ} (w n blocks summary : ℕ) (f : X → ℕ) (P : X → Type 0) (xs ss : List X) → 0 < w → IsStoredList w f P xs ss n start → length xs ≤ blocks
    → length ss ≤ summary → length xs ≤ shared_capacity w blocks summary
stored_within w n blocks summary f P xs ss pos stored first second =
    shared_enough w blocks summary (length xs) pos first (let count = stored_length w f P xs ss stored.summary in omega arith)

pub kept_use : (w n k : ℕ) (ms ns : List ℕ) → 0 < w → get_or ms k 0 < 2 ^ w → get_or ns k 0 < 2 ^ w → ((i : ℕ) → i < n → value_at w ns i ≡ value_at w ms i) → k + 1 < blocks_for w n
    → is_used ms k ≡ is_used ns k
kept_use w n k ms ns pos small also kept before =
    let whole = whole_before w n (k + 1) pos before in
    same_use w ms ns k small also (λ j index. sym (kept (k * w + j) (omega (arith, whole, index))))

-- a list that goes on with false values is at each index what it was
pub kept_with_zeros : (w n m i : ℕ) (bit : Bool) (ms ns : List ℕ) → bit ≡ false → ((i : ℕ) → i < n → value_at w ns i ≡ value_at w ms i) → ((i : ℕ) → n ≤ i → value_at w ms i ≡ false)
    → ((i : ℕ) → n ≤ i → i < m → value_at w ns i ≡ bit) → ((i : ℕ) → m ≤ i → value_at w ns i ≡ false) → value_at w ns i ≡ value_at w ms i
kept_with_zeros w n m i bit ms ns none kept zero_tail added after = grind arith

-- a block whose values are all the same
pub use_of_values : (w n k : ℕ) (ms : List ℕ) (bit : Bool) → 0 < w → get_or ms k 0 < 2 ^ w → k < blocks_for w n → ((i : ℕ) → k * w ≤ i → i < n → value_at w ms i ≡ bit)
    → ((i : ℕ) → n ≤ i → value_at w ms i ≡ false) → is_used ms k ≡ bit
use_of_values w n k ms true pos small inside each zero_tail =
    let start = whole_before w n k pos inside in
    used_from_true w ms k 0 pos (each (k * w + 0) (omega arith) (omega arith))
use_of_values w n k ms false pos small inside each zero_tail =
    unused_from_false w ms k small (λ j index. grind arith)

-- the new blocks of a longer list
pub use_of_added : (w old n k : ℕ) (ms : List ℕ) (bit : Bool) → 0 < w → get_or ms k 0 < 2 ^ w → blocks_for w old ≤ k → k < blocks_for w n
    → ((i : ℕ) → old ≤ i → i < n → value_at w ms i ≡ bit) → ((i : ℕ) → n ≤ i → value_at w ms i ≡ false) → is_used ms k ≡ bit
use_of_added w old n k ms bit pos small from inside added zero_tail =
    let enough = blocks_for-enough w old pos in
    let more = mul-le-mul_right w from in
    use_of_values w n k ms bit pos small inside (λ i reached within. added i (omega arith) within) zero_tail

pub filled_summary : {X : Type 0} (w n : ℕ) (f : X → ℕ) (P : X → Type 0) (xs summary : List X) (bit : Bool) → 0 < w → ((x : X) → P x → f x < 2 ^ w) → IsPacked w f P xs n
    → ((i : ℕ) → i < n → value_at w (map f xs) i ≡ bit) → IsPacked w f P summary (length xs) → ((k : ℕ) → k < length xs → value_at w (map f summary) k ≡ bit) → IsSummary w f P xs summary
filled_summary w n f P xs summary bit pos below packed filled summary_packed summary_filled =
    is_summary w f P xs summary summary_packed (λ k within.
    summary_filled k within
    ∙ sym (use_of_values w n k (map f xs) bit pos (numbers_below w f P xs below packed.each k) (let count = packed.count in omega arith) (λ i from inside. filled i inside) packed.tail.zero_tail))

-- one value of the list written, and the bit of its block
pub changed_summary : {X : Type 0} (w i k : ℕ) (b u : Bool) (f : X → ℕ) (P : X → Type 0) (xs ys old new : Vec X) → 0 < w → ((x : X) → P x → f x < 2 ^ w) → All P xs.items → k ≡ i / w
    → k < length xs.items → WritesValue w (map f xs.items) (map f ys.items) i b → WritesInPlace P xs ys → IsSummary w f P xs.items old.items → u ≡ is_used (map f ys.items) k
    → WritesValue w (map f old.items) (map f new.items) k u → WritesInPlace P old new → IsSummary w f P ys.items new.items
changed_summary w i k b u f P xs ys old new pos below each is inside value in_place summary used updated summary_in_place =
    let len : length ys.items ≡ length xs.items = omega (arith, xs.ok.0, ys.ok.0, in_place.len) in
    summary_updated w f P ys.items old new k (omega (arith, len)) (rw len summary.packed)
    (λ q within other.
    summary.digit q
    ∙ same_use w (map f xs.items) (map f ys.items) q (numbers_below w f P xs.items below each q) (numbers_below w f P ys.items below in_place.each q) (λ j index.
    sym (value.others (q * w + j) (λ here. other (sym (div-mul-add q w j index) ∙ ap (λ x. x / w) here ∙ sym is)))))
    (record { same = updated.same ∙ used; others = updated.others })
    summary_in_place
