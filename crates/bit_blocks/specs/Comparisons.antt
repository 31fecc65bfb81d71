-- When two lists of blocks can be compared, and how far a comparison goes. Of the public clauses only those of `packed`
-- cite this.
use Rattle.std.specs.Prelude.{◌≡◌, ℕ, ◌+◌, ◌/◌, ◌≤◌, Bool, IsTrue, List, length, All}

-- The first `count` blocks of two lists can be compared: both have so many, and all are block values.
pub record CanCompare {X : Type 0} (is_block : X → Type 0) (xs ys : List X) (count : ℕ) : Type 0 where
  pub within : count ≤ length xs
  pub within_other : count ≤ length ys
  pub each : All is_block xs
  pub others : All is_block ys

-- A comparison took these steps, one for each block of w digits: up to the block of the first index that decides, or
-- `most` where none does.
pub record TakesSteps (decides : ℕ → Type 0) (w most old new : ℕ) (result : Bool) : Type 0 where
  pub stops : (i : ℕ) → decides i → new ≡ old + i / w + 1
  pub fewest : old ≤ new
  pub at_most : new ≤ old + most
  pub all : IsTrue result → new ≡ old + most
