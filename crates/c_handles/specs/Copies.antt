-- What calls write into an array of C's.
use Rattle.std.specs.Prelude.{◌≡◌, ℕ, drop, length, List, min, take}

-- A call wrote so many at the front, which are as many of n as fit, and no others.
pub record FillsFront {X : Type 0} (written n : ℕ) (old new : List X) : Type 0 where
  pub count : written ≡ min (length old) n
  pub others : drop written new ≡ drop written old

-- These are the first of the items.
pub record CopiesFront {X : Type 0} (written : ℕ) (items old new : List X) : Type 0 where
  pub fills : FillsFront written (length items) old new
  pub values : take written new ≡ take written items
