-- What is asked of the values in a range, by the value at every index.
use Rattle.std.proofs.Common.{◌≡◌, ◌≢◌, ℕ, ◌+◌, ◌-◌, ◌*◌, ◌<◌, ◌≤◌, ◌↔◌, ◌==◌, ◌&&◌, min, Bool, IsTrue, true, false, not, nat_lt, cond, List, [], ◌∷◌, get_or, length, take, drop, map}
use Rattle.std.proofs.Common.{slice_get, Some, refl, sym, ap, ap₂, ◌∙◌, arith, length-take, length-drop, get_or-take, get_or-drop}
use Rattle.std.proofs.lemmas.Bool.{false≢true, lt-ltb, Decides.nat_tests}
use Rattle.std.{proofs.lemmas.List.{ext_get_or, FromFn.{get_or-map-range_with_len, length-map-range_with_len}, Sums.sum_by-cons}, specs.List.{count_by, range_with_len}}
use Rattle.bit_blocks.specs.{declared.block.merge.Merge.TheVariants.{Difference, Intersection}, Bits.{Bits, blocks_of}, BlockMerges.MergesSpanToFalse, Digits.{IsComplement, is_one}}
use Rattle.bit_blocks.specs.{Ranges.values_in_range, Storage.{IsZeroFrom, value_at, values_of}}
use Rattle.bit_blocks.proofs.{BitsLemmas.{blocks_of-digit, read_back}, CompareLemmas.true_at, Masks.is_one-complement, StorageLemmas.{get_or-values_of, length-values_of}}

pub trues_of_map : (f : ℕ → Bool) (xs : List ℕ) → count_by (λ value. value) (map f xs) ≡ count_by f xs
trues_of_map f [] = refl
trues_of_map f (x ∷ xs) =
    omega (arith, trues_of_map f xs, sum_by-cons (λ b. cond b 1 0) (f x) (map f xs), sum_by-cons (λ i. cond (f i) 1 0) x xs)

values_in-values_of : (w a b n end : ℕ) (ms : List ℕ) → end ≡ min b n → values_in_range a b (values_of w ms n) ≡ map (value_at w ms) (range_with_len a (end - a))
values_in-values_of w a b n end ms cut =
    let vals = values_of w ms n in
    let long = length-values_of w ms n in
    let count : length (take (b - a) (drop a vals)) ≡ end - a = omega (arith, length-take (b - a) (drop a vals), length-drop a vals) in
    ext_get_or false _ _ (count ∙ sym (length-map-range_with_len (value_at w ms) a (end - a))) (λ i within.
    let below : i < end - a = omega (arith, count) in
    get_or-take (b - a) (drop a vals) i false (omega arith) ∙ get_or-drop a vals i false ∙ get_or-values_of w ms n (a + i) false (omega arith)
    ∙ sym (get_or-map-range_with_len (value_at w ms) a (end - a) i (a + i) false below refl))

pub trues_in_view : (w a b n r end : ℕ) (ms : List ℕ) (v : Bits) → record { values = values_of w ms n; capacity = r } ≡ v → end ≡ min b n → count_by (value_at w ms)
    (range_with_len a (end - a)) ≡ count_by (λ value. value) (values_in_range a b v.values)
trues_in_view w a b n r end ms v e cut =
    sym (trues_of_map (value_at w ms) (range_with_len a (end - a))) ∙ ap (count_by (λ value. value)) (sym (values_in-values_of w a b n end ms cut))
    ∙ ap (λ u. count_by (λ value. value) (values_in_range a b u.values)) e

-- a value in the range is true, or is not, as its merge with true is false
pub all_in_view : (w a b n r : ℕ) (ms : List ℕ) (v : Bits) → record { values = values_of w ms n; capacity = r } ≡ v → IsZeroFrom w ms n → MergesSpanToFalse Difference w a b ms ↔
    ((i : ℕ) → a ≤ i → i < b → slice_get v.values i ≡ Some true)
all_in_view w a b n r ms v e tail = (
  λ falses i reached below. (true_at w n r ms v e tail i).1 (grind (arith, falses.value i reached below)),
  λ all. record { value = λ i reached below. let one = (true_at w n r ms v e tail i).0 (all i reached below) in grind (arith, one) },
)

pub none_in_view : (w a b n r end : ℕ) (ms : List ℕ)
    (v : Bits) → record { values = values_of w ms n; capacity = r } ≡ v → IsZeroFrom w ms n → end ≡ min b n → MergesSpanToFalse Intersection w a end ms ↔
    ((i : ℕ) → a ≤ i → i < b → slice_get v.values i ≢ Some true)
none_in_view w a b n r end ms v e tail cut = (
  λ falses i reached below is.
      let one = (true_at w n r ms v e tail i).0 is in
      grind (arith, one, tail.zero_tail i, falses.value i reached),
  λ none. record {
    value = λ i reached below.
        let no = λ (one : value_at w ms i ≡ true). none i reached (omega (arith, below)) ((true_at w n r ms v e tail i).1 one) in
        grind (arith, no);
  },
)

-- a range that reaches past the list has a value that is not true
pub not_all_past : (w a b n r : ℕ) (ms : List ℕ) (v : Bits) → record { values = values_of w ms n; capacity = r } ≡ v → IsZeroFrom w ms n → a < b → n < b → IsTrue false ↔
    ((i : ℕ) → a ≤ i → i < b → slice_get v.values i ≡ Some true)
not_all_past w a b n r ms v e tail some past = (
  λ yes. absurd (false≢true yes),
  λ all. absurd (false≢true (sym (tail.zero_tail (b - 1) (omega arith)) ∙ (true_at w n r ms v e tail (b - 1)).0 (all (b - 1) (omega arith) (omega arith)))),
)

-- and one that begins there has none that is
pub none_past : (w a b n r end : ℕ) (ms : List ℕ) (v : Bits) → record { values = values_of w ms n; capacity = r } ≡ v → IsZeroFrom w ms n → end ≡ min b n → end ≤ a →
    (i : ℕ) → a ≤ i → i < b → slice_get v.values i ≢ Some true
none_past w a b n r end ms v e tail cut empty i reached below is =
    false≢true (sym (tail.zero_tail i (omega arith)) ∙ (true_at w n r ms v e tail i).0 is)

-- ---- which values of a block are not true

zero_digit : (w k j b z : ℕ) (ms : List ℕ) (values : List Bool) → ms ≡ blocks_of w values → b ≡ get_or ms k 0 → IsComplement w b z → j < w → is_one z j ≡ not (get_or values (k * w + j) false)
zero_digit w k j b z ms values same read turned within =
    is_one-complement w b z j turned within
    ∙ ap (λ m. not (is_one m j)) (read ∙ ap (λ xs. get_or xs k 0) same)
    ∙ ap (λ d. not (d == 1)) (blocks_of-digit w k j values within)
    ∙ ap not (read_back (get_or values (k * w + j) false))

-- of all of them, where the range goes on past the block
pub zeros_of_block : (w k end : ℕ) (b z : ℕ) (ms : List ℕ) (values : List Bool) → ms ≡ blocks_of w values → b ≡ get_or ms k 0 → IsComplement w b z → k * w + w ≤ end
    → (j : ℕ) → j < w → is_one z j ≡ (nat_lt (k * w + j) end && not (get_or values (k * w + j) false))
zeros_of_block w k end b z ms values same read turned on j within =
    let digit = zero_digit w k j b z ms values same read turned within in
    let below : nat_lt (k * w + j) end ≡ true = lt-ltb (k * w + j) end (omega arith) in
    digit ∙ ap (λ t. t && not (get_or values (k * w + j) false)) (sym below)

-- and of those below its end
pub zeros_below : (w k end : ℕ) (b z r below : ℕ) (ms : List ℕ) (values : List Bool) → ms ≡ blocks_of w values → b ≡ get_or ms k 0 → IsComplement w b z → below + k * w ≡ end
    → ((j : ℕ) → j < w → is_one r j ≡ (nat_lt j below && is_one z j))
    → (j : ℕ) → j < w → is_one r j ≡ (nat_lt (k * w + j) end && not (get_or values (k * w + j) false))
zeros_below w k end b z r below ms values same read turned to cut j within =
    let digit = zero_digit w k j b z ms values same read turned within in
    let moved : nat_lt j below ≡ nat_lt (k * w + j) end = shifted (k * w) j below end to in
    cut j within ∙ ap₂ (λ s t. s && t) moved digit
  where
    shifted : (p i n m : ℕ) → n + p ≡ m → nat_lt i n ≡ nat_lt (p + i) m
    shifted p i n m is = grind (arith, nat_tests)
