use Rattle.std.proofs.Common.{◌≡◌, ℕ, ◌<◌, get_or, map}
use Rattle.bit_blocks.proofs.packed.zeros.zeros_before.Given as goal

abbrev pub invariant-loop-k : goal.invariant-loop-k
invariant-loop-k g l = (j : ℕ) → j < l.k → get_or (map g.B.BitBlock.number l.blocks) j 0 ≡ 0
