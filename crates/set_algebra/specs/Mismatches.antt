-- Where two sets first differ. No public clause cites this.
use Rattle.std.specs.Prelude.{◌≡◌, ℕ, ◌<◌, not, List}
use Rattle.set_algebra.specs.Sets.{has}

-- n is the least number that just one of the sets has
pub record IsFirstMismatch (s t : List ℕ) (n : ℕ) : Type 0 where
  pub below : (k : ℕ) → k < n → has s k ≡ has t k
  pub here : has s n ≡ not (has t n)
