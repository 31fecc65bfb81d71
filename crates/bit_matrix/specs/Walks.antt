-- The walk over a row: a step of it, and its fields, which no public clause cites.
use Rattle.std.specs.{Iterator.YieldsFirst, Prelude.{ℕ, All, List, Option, MatchOption, ⊤, length, map}}
use Rattle.bit_set.specs.{Indexes.{CanWalk, values_in}, Members.TakesLeast}

-- A call of `next` that gave r went from the columns s to t: it took the first, which is the least, or gave None at the
-- end, which stays.
pub record AdvancesInRow (s : List ℕ) (r : Option ℕ) (t : List ℕ) : Type 0 where
  pub item : YieldsFirst (λ (left : List ℕ). left) s r t
  pub first : MatchOption r ⊤ (λ x. TakesLeast s x t)

-- The block in hand and those past it are block values, and the walk can go on.
pub record IsRowWalk {X : Type 0} (w : ℕ) (number : X → ℕ) (is_block : X → Type 0) (rest : List X) (block : X)
    (index : ℕ) : Type 0 where
  pub in_hand : is_block block
  pub each : All is_block rest
  pub can : CanWalk w index (number block)
      (record { values = values_in w (map number rest); blocks = length rest; pulls = 0 })
