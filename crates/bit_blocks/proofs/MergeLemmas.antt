-- What the merge of two lists is at every index.
use Rattle.std.proofs.Common.{◌≡◌, ℕ, zero, suc, ◌≤◌, max, Bool, false, List, [], ◌∷◌, length, get_or, refl, sym, arith}
use Rattle.bit_blocks.{specs.{declared.block.merge.Merge.Merge, Merges.{merge_of_values, merge_of}, Storage.{value_at, values_of, IsZeroFrom}}, proofs.StorageLemmas.length-values_of}
use Rattle.bit_blocks.proofs.StorageLemmas.{values_of-same, get_or-values_of_zero_tail}

-- ---- two lists

pub merge_of_values-none : (m : Merge) → merge_of_values m false false ≡ false
merge_of_values-none m = grind arith

pub length-merged : (m : Merge) (xs ys : List Bool) → length (merge_of m xs ys) ≡ max (length xs) (length ys)
length-merged m [] [] = refl
length-merged m (x ∷ xs) [] = let i = length-merged m xs [] in omega arith
length-merged m [] (y ∷ ys) = let i = length-merged m [] ys in omega arith
length-merged m (x ∷ xs) (y ∷ ys) = let i = length-merged m xs ys in omega arith

pub get_or-merged : (m : Merge) (xs ys : List Bool) (i : ℕ) → get_or (merge_of m xs ys) i false ≡ merge_of_values m (get_or xs i false) (get_or ys i false)
get_or-merged m [] [] i = sym (merge_of_values-none m)
get_or-merged m (x ∷ xs) [] zero = refl
get_or-merged m (x ∷ xs) [] (suc i) = get_or-merged m xs [] i
get_or-merged m [] (y ∷ ys) zero = refl
get_or-merged m [] (y ∷ ys) (suc i) = get_or-merged m [] ys i
get_or-merged m (x ∷ xs) (y ∷ ys) zero = refl
get_or-merged m (x ∷ xs) (y ∷ ys) (suc i) = get_or-merged m xs ys i

pub merged_lists : (m : Merge) (w : ℕ) (ms os ns : List ℕ) (len short : ℕ) → short ≤ len → IsZeroFrom w ms len
    → IsZeroFrom w os short → ((i : ℕ) → value_at w ns i ≡ merge_of_values m (value_at w ms i) (value_at w os i))
    → values_of w ns len ≡ merge_of m (values_of w ms len) (values_of w os short)
merged_lists m w ms os ns len short shorter zero_tail also each =
    values_of-same w ns len _ (omega (arith, length-merged m (values_of w ms len) (values_of w os short), length-values_of w ms len, length-values_of w os short)) (λ i below.
    grind (arith, each i, get_or-values_of_zero_tail w ms len i, get_or-values_of_zero_tail w os short i, get_or-merged m (values_of w ms len) (values_of w os short) i))

pub merged_zero_tail : (m : Merge) (w : ℕ) (ms os ns : List ℕ) (len short : ℕ) → short ≤ len → IsZeroFrom w ms len
    → IsZeroFrom w os short → ((i : ℕ) → value_at w ns i ≡ merge_of_values m (value_at w ms i) (value_at w os i))
    → IsZeroFrom w ns len
merged_zero_tail m w ms os ns len short shorter zero_tail also each = grind (arith, each, zero_tail, also, merge_of_values-none)
