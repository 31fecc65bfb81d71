-- Where two lists of blocks and two blocks first differ.
use Rattle.std.specs.{Prelude.{◌≡◌, ◌≢◌, ℕ, ◌+◌, ◌<◌, ◌≤◌, List, get_or}, Int.bit_at}

-- k is the first index at which the blocks differ, where those past the end of a list are 0
pub record IsFirstBlockMismatch (ms ns : List ℕ) (k : ℕ) : Type 0 where
  pub below : (j : ℕ) → j < k → get_or ms j 0 ≡ get_or ns j 0
  pub here : get_or ms k 0 ≢ get_or ns k 0

-- k is the first index from `from` on at which there is a block that is not 0
pub record IsFirstNonzeroBlock (ms : List ℕ) (from k : ℕ) : Type 0 where
  pub reached : from ≤ k
  pub below : (j : ℕ) → from ≤ j → j < k → get_or ms j 0 ≡ 0
  pub here : get_or ms k 0 ≢ 0

-- digit i is the lowest of w digits that just one of the numbers has as 1
pub record IsLowestMismatch (w m n i : ℕ) : Type 0 where
  pub within : i < w
  pub below : (k : ℕ) → k < i → bit_at m k ≡ bit_at n k
  pub here : bit_at m i + bit_at n i ≡ 1
