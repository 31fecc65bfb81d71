-- Where a bit is. Of the public clauses only those of `packed` cite this.
use Rattle.std.specs.Prelude.{◌≡◌, ℕ, ◌+◌, ◌*◌, ◌<◌}

-- Bit i of a list is bit p of block k, where each block has w bits.
pub record IsPlace (w i k p : ℕ) : Type 0 where
  pub whole : i ≡ k * w + p
  pub within : p < w
