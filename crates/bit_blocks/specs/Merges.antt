-- What two lists of truth values become, value by value.
use Rattle.std.specs.Prelude.{Bool, false, not, ◌&&◌, ◌||◌, List, [], ◌∷◌}
use Rattle.bit_blocks.specs.declared.block.merge.Merge.{Merge, TheVariants.{Union, Intersection, Difference, Symmetric}}

-- what two values become: in either, in both, in the first alone, in just one
abbrev pub merge_of_values : Merge → Bool → Bool → Bool
merge_of_values Union a b = a || b
merge_of_values Intersection a b = a && b
merge_of_values Difference a b = a && not b
merge_of_values Symmetric a b = (a && not b) || (not a && b)

-- what two lists become: the shorter one goes on with false
abbrev pub merge_of : Merge → List Bool → List Bool → List Bool
merge_of merge [] [] = []
merge_of merge (x ∷ xs) [] = merge_of_values merge x false ∷ merge_of merge xs []
merge_of merge [] (y ∷ ys) = merge_of_values merge false y ∷ merge_of merge [] ys
merge_of merge (x ∷ xs) (y ∷ ys) = merge_of_values merge x y ∷ merge_of merge xs ys
