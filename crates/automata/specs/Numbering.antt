-- Sets that are numbered in the order in which they were met, each once.
use Rattle.std.specs.Prelude.{◌≡◌, ◌≢◌, ℕ, ◌<◌, ◌++◌, ◌⊎◌, List, [], ◌∷◌, Option, Some, length, slice_index_or}
use Rattle.bit_set.specs.{Bits.Bits, Sets.elements}

-- the set with a number, and the empty one where there is none
abbrev pub set_of : List (List ℕ) → ℕ → List ℕ
set_of sets number = slice_index_or sets number []

-- A look-up finds the number of each set in the list, and nothing else.
pub record Finds (find : Bits → Option ℕ) (sets : List (List ℕ)) : Type 0 where
  pub listed : (set : Bits) (number : ℕ) → find set ≡ Some number
      → (number < length sets) × (set_of sets number ≡ elements set.values)
  pub found : (set : Bits) (number : ℕ) → number < length sets → set_of sets number ≡ elements set.values
      → find set ≡ Some number

-- the set is none of those in the list
abbrev pub IsNew : List (List ℕ) → List ℕ → Type 0
IsNew sets set = (number : ℕ) → number < length sets → set_of sets number ≢ set

-- The set has the number in the new list, which is the old one, or the old one and the set, which it did not have.
pub record Numbers (old : List (List ℕ)) (set : List ℕ) (number : ℕ) (new : List (List ℕ)) : Type 0 where
  pub inside : number < length new
  pub named : set_of new number ≡ set
  pub grows : (new ≡ old) ⊎ ((new ≡ old ++ set ∷ []) × IsNew old set)
