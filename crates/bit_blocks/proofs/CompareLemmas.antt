-- When the blocks of two lists merge to zeros, and what that says of the lists.
use Rattle.std.proofs.Common.{◌≡◌, ◌≢◌, ℕ, ◌+◌, ◌*◌, ◌/◌, ◌%◌, ◌^◌, ◌<◌, ◌≤◌, ◌↔◌, ◌==◌, Bool, true, false, List, length}
use Rattle.std.proofs.Common.{map, get_or, slice_get, Some, refl, ◌⊎◌, min, sym, ap, ap₂, ◌∙◌, arith, mod-lt, pow_pos}
use Rattle.std.proofs.lemmas.{Bool.{eq-eqb, false≢true}, List.{get_or_past, length-map}, Nat.Bits.{bit_at-zero, same_from_bits_below}, Option.get_or_from_slice_get}
use Rattle.bit_blocks.specs.declared.block.merge.Merge.{Merge, TheVariants.{Intersection, Difference}}
use Rattle.bit_blocks.specs.{Bits.{Bits, IsFirstTrue}, Merges.{merge_of_values, merge_of}}
use Rattle.bit_blocks.specs.BlockMerges.{MergesToZero, MergesToFalse}
use Rattle.bit_blocks.specs.{BlockMerges.IsFirstMerged, Digits.is_one, Storage.{value_at, values_of, IsZeroFrom}}
use Rattle.bit_blocks.proofs.{BitsLemmas.{index_below, slice_get_from_true}, Masks.is_one-zero, StorageLemmas.value_at-is}
use Rattle.bit_blocks.proofs.{StorageLemmas.{value_at-index, value_at-past, get_or-values_of_zero_tail}, MergeLemmas.get_or-merged, VectorLemmas.bit_from_false}

-- ---- blocks

-- a block is 0 where its digits are
pub zero_from_digits : (w n : ℕ) → n < 2 ^ w → ((j : ℕ) → j < w → is_one n j ≡ false) → n ≡ 0
zero_from_digits w n small falses =
    same_from_bits_below w n 0 small (pow_pos w) (λ j within. bit_from_false n j (falses j within) ∙ sym (bit_at-zero j))

pub digit_from_zero : (n j : ℕ) → n ≡ 0 → is_one n j ≡ false
digit_from_zero n j z = ap (λ m. is_one m j) z ∙ is_one-zero j

-- a test against a block of zeros that says no
pub mismatch_zero : (n z : ℕ) (b : Bool) → b ≡ (n == z) → b ≡ false → z ≡ 0 → n ≢ 0
mismatch_zero n z b is mismatch naught none = false≢true (sym mismatch ∙ is ∙ eq-eqb n z (none ∙ sym naught))

-- block k is one of those that merge to 0, and its merge is n
pub merge_of_zeros : (m : Merge) (w : ℕ) (ms ns : List ℕ) (count k a b n : ℕ) → n < 2 ^ w → a ≡ get_or ms k 0
    → b ≡ get_or ns k 0 → ((j : ℕ) → j < w → is_one n j ≡ merge_of_values m (is_one a j) (is_one b j)) → k < count
    → MergesToZero m w ms ns count → n ≡ 0
merge_of_zeros m w ms ns count k a b n small first second digits within zeros =
    zero_from_digits w n small (λ j index. cc (digits j index, zeros.digit k j within index))

-- ---- the first index at which they merge to true

-- it lies past the blocks that merge to 0
pub first_is_past : (m : Merge) (w : ℕ) (ms ns : List ℕ) (count i : ℕ) → 0 < w → MergesToZero m w ms ns count → IsFirstMerged m w ms ns i → count ≤ i / w
first_is_past m w ms ns count i pos zeros first = grind (arith, zeros.digit (i / w) (i % w), first.is_true, value_at-is, mod-lt i pos)

-- the blocks before its own merge to 0
pub zero_before_first : (m : Merge) (w : ℕ) (ms ns : List ℕ) (count i : ℕ) → count ≤ i / w → IsFirstMerged m w ms ns i → MergesToZero m w ms ns count
zero_before_first m w ms ns count i past first = record {
  digit = λ k j within index. grind (arith, value_at-index w ms k j index, value_at-index w ns k j index, first.before (k * w + j) (index_below w k j i index (omega arith)));
}

-- so its block is the first whose merge n is not 0
pub first_is_here : (m : Merge) (w : ℕ) (ms ns : List ℕ) (k a b n i : ℕ) → 0 < w → n < 2 ^ w → a ≡ get_or ms k 0
    → b ≡ get_or ns k 0 → ((j : ℕ) → j < w → is_one n j ≡ merge_of_values m (is_one a j) (is_one b j)) → n ≢ 0
    → MergesToZero m w ms ns k → IsFirstMerged m w ms ns i → i / w ≡ k
first_is_here m w ms ns k a b n i pos small one two digits some zeros first =
    let not_past = λ (past : k < i / w). some (merge_of_zeros m w ms ns (i / w) k a b n small one two digits past (zero_before_first m w ms ns (i / w) i (omega arith) first)) in
    grind (arith, first_is_past m w ms ns k i pos zeros first, not_past)

-- ---- values

pub false_from_zero : (m : Merge) (w : ℕ) (ms ns : List ℕ) (count : ℕ) → 0 < w → MergesToZero m w ms ns count
    → ((k j : ℕ) → count ≤ k → j < w → merge_of_values m (is_one (get_or ms k 0) j) (is_one (get_or ns k 0) j) ≡ false)
    → MergesToFalse m w ms ns
false_from_zero m w ms ns count pos zeros past = record { value = λ i. grind (arith, value_at-is, zeros.digit (i / w) (i % w), past (i / w) (i % w), mod-lt i pos) }

pub zero_from_false : (m : Merge) (w : ℕ) (ms ns : List ℕ) → MergesToFalse m w ms ns → (k j : ℕ) → j < w → merge_of_values m (is_one (get_or ms k 0) j) (is_one (get_or ns k 0) j) ≡ false
zero_from_false m w ms ns falses k j index =
    ap₂ (merge_of_values m) (sym (value_at-index w ms k j index)) (sym (value_at-index w ns k j index)) ∙ falses.value (k * w + j)

-- the lesser of two numbers of blocks is one of them
pub shorter_end : {X : Type 0} (f : X → ℕ) (xs ys : List X) (c : ℕ) → c ≡ min (length xs) (length ys) → (c ≡ length (map f ys)) ⊎ (c ≡ length (map f xs))
shorter_end f xs ys c e = rw (length-map xs, length-map ys) (grind arith)

-- one block more merges to 0
pub zeros_more : (m : Merge) (w : ℕ) (ms os : List ℕ) (k a b n : ℕ) → MergesToZero m w ms os k → a ≡ get_or ms k 0
    → b ≡ get_or os k 0 → ((j : ℕ) → j < w → is_one n j ≡ merge_of_values m (is_one a j) (is_one b j)) → n ≡ 0
    → MergesToZero m w ms os (k + 1)
zeros_more m w ms os k a b n zeros first second digits none = record { digit = λ q j below index. grind (arith, zeros.digit q j, digits j index, digit_from_zero n j none) }

-- a difference: where both have blocks, and past those
pub difference_of_blocks : (w : ℕ) (ms ns : List ℕ) (count : ℕ) → 0 < w → ((k : ℕ) → get_or ms k 0 < 2 ^ w)
    → (count ≡ length ns) ⊎ (count ≡ length ms)
    → (MergesToZero Difference w ms ns count × ((k : ℕ) → count ≤ k → get_or ms k 0 ≡ 0)) ↔ MergesToFalse Difference w ms ns
difference_of_blocks w ms ns count pos small ends = (
  λ zeros. false_from_zero Difference w ms ns count pos zeros.0 (λ k j past index. rw (zeros.1 k past, is_one-zero) refl),
  λ falses. (
    record { digit = λ k j within index. zero_from_false Difference w ms ns falses k j index },
    λ k past. zero_from_digits w _ (small k) (λ j index. grind (arith, zero_from_false Difference w ms ns falses k j index, get_or_past, is_one-zero, ends)),
  ),
)

-- an intersection: it is enough to look where both have blocks
pub intersection_of_blocks : (w : ℕ) (ms ns : List ℕ) (count : ℕ) → 0 < w → (count ≡ length ns) ⊎ (count ≡ length ms) → MergesToZero Intersection w ms ns count ↔ MergesToFalse Intersection w ms ns
intersection_of_blocks w ms ns count pos ends = (
  λ zeros. false_from_zero Intersection w ms ns count pos zeros (λ k j past index. grind (arith, get_or_past, is_one-zero, ends)),
  λ falses. record { digit = λ k j within index. zero_from_false Intersection w ms ns falses k j index },
)

-- where a difference first is true past the others, the first own block past them that is not 0
pub first_of_rest : (w : ℕ) (ms ns : List ℕ) (count i : ℕ) → ((k : ℕ) → get_or ms k 0 < 2 ^ w)
    → (count ≡ length ns) ⊎ (count ≡ length ms) → IsFirstMerged Difference w ms ns i
    → (get_or ms (i / w) 0 ≢ 0) × ((q : ℕ) → count ≤ q → q < i / w → get_or ms q 0 ≡ 0)
first_of_rest w ms ns count i small ends first = (
  λ none. grind (arith, value_at-is, is_one-zero, none, first.is_true),
  λ q past below. zero_from_digits w _ (small q) (λ j index.
      grind (arith, get_or_past, is_one-zero, ends, value_at-index w ms q j index, value_at-index w ns q j index, first.before (q * w + j) (index_below w q j i index below))),
)

-- where an intersection first is true, both have a block
pub first_is_within : (w : ℕ) (ms ns : List ℕ) (count i : ℕ) → (count ≡ length ns) ⊎ (count ≡ length ms) → IsFirstMerged Intersection w ms ns i → i / w < count
first_is_within w ms ns count i ends first = grind (arith, ends, first.is_true, value_at-past)

-- ---- lists

-- a value of a list is one of its blocks
pub value_in_view : (w n r : ℕ) (ms : List ℕ) (v : Bits) → record { values = values_of w ms n; capacity = r } ≡ v → IsZeroFrom w ms n → (i : ℕ) → get_or v.values i false ≡ value_at w ms i
value_in_view w n r ms v e zero_tail i = sym (ap (λ b. get_or b.values i false) e) ∙ get_or-values_of_zero_tail w ms n i zero_tail

pub true_at : (w n r : ℕ) (ms : List ℕ) (v : Bits) → record { values = values_of w ms n; capacity = r } ≡ v
    → IsZeroFrom w ms n → (i : ℕ) → (slice_get v.values i ≡ Some true) ↔ (value_at w ms i ≡ true)
true_at w n r ms v e zero_tail i = grind (arith, value_in_view w n r ms v e zero_tail i, get_or_from_slice_get v.values i true false, slice_get_from_true v.values i)

merged_in_views : (m : Merge) (w n p r s : ℕ) (ms ns : List ℕ) (v u : Bits)
    → record { values = values_of w ms n; capacity = r } ≡ v → record { values = values_of w ns p; capacity = s } ≡ u
    → IsZeroFrom w ms n → IsZeroFrom w ns p → (i : ℕ)
    → get_or (merge_of m v.values u.values) i false ≡ merge_of_values m (value_at w ms i) (value_at w ns i)
merged_in_views m w n p r s ms ns v u e f zero_tail also i =
    get_or-merged m v.values u.values i
    ∙ ap₂ (merge_of_values m) (value_in_view w n r ms v e zero_tail i) (value_in_view w p s ns u f also i)

pub first_of_lists : (m : Merge) (w n p r s : ℕ) (ms ns : List ℕ) (v u : Bits)
    → record { values = values_of w ms n; capacity = r } ≡ v → record { values = values_of w ns p; capacity = s } ≡ u
    → IsZeroFrom w ms n → IsZeroFrom w ns p → (i : ℕ) → IsFirstTrue (merge_of m v.values u.values) i → IsFirstMerged m w ms ns i
first_of_lists m w n p r s ms ns v u e f zero_tail also i first =
    grind (arith, merged_in_views m w n p r s ms ns v u e f zero_tail also, get_or_from_slice_get (merge_of m v.values u.values) i true false, slice_get_from_true (merge_of m v.values u.values), first)

pub subset_lists : (w n p r s : ℕ) (ms ns : List ℕ) (v u : Bits) → record { values = values_of w ms n; capacity = r } ≡ v
    → record { values = values_of w ns p; capacity = s } ≡ u → IsZeroFrom w ms n → IsZeroFrom w ns p
    → MergesToFalse Difference w ms ns ↔ ((i : ℕ) → slice_get v.values i ≡ Some true → slice_get u.values i ≡ Some true)
subset_lists w n p r s ms ns v u e f zero_tail also = (
  λ falses i first. grind (arith, true_at w p s ns u f also i, falses.value i, true_at w n r ms v e zero_tail i, first),
  λ each. record { value = λ i. grind (arith, true_at w p s ns u f also i, each i, true_at w n r ms v e zero_tail i) },
)

pub disjoint_lists : (w n p r s : ℕ) (ms ns : List ℕ) (v u : Bits) → record { values = values_of w ms n; capacity = r } ≡ v
    → record { values = values_of w ns p; capacity = s } ≡ u → IsZeroFrom w ms n → IsZeroFrom w ns p
    → MergesToFalse Intersection w ms ns ↔ ((i : ℕ) → slice_get v.values i ≡ Some true → slice_get u.values i ≢ Some true)
disjoint_lists w n p r s ms ns v u e f zero_tail also = (
  λ falses i first second. grind (arith, true_at w p s ns u f also i, falses.value i, true_at w n r ms v e zero_tail i, first, second),
  λ each. record { value = λ i. grind (arith, true_at w p s ns u f also i, each i, true_at w n r ms v e zero_tail i) },
)
