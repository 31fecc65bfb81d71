-- What calls do to a set: several items that come in, and a change that is told.
use Rattle.std.specs.Prelude.{◌≡◌, ℕ, ◌≤◌, max, not, Bool, false, List, length}
use Rattle.bit_words.specs.Bounds.{greatest}
use Rattle.set_algebra.specs.{Members.IsUnion, Order.same_sets, Sets.{elements, put_all, bound_of}}

-- The items came into the set that the list keeps, and the list is just as long as they ask. None of them is the
-- greatest `usize`.
pub record TakesIn (items : List ℕ) (old new : List Bool) : Type 0 where
  pub members : elements new ≡ put_all (elements old) items
  pub union : IsUnion (elements old) items (elements new)
  pub long : length new ≡ max (length old) (bound_of items)
  pub fit : bound_of items ≤ greatest

-- It is told whether the members changed, which were `old` and are `new`.
pub record TellsChange (told : Bool) (old new : List ℕ) : Type 0 where
  pub changed : told ≡ not (same_sets old new)
  pub unchanged : told ≡ false → new ≡ old
