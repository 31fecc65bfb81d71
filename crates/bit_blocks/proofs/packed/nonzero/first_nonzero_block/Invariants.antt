use Rattle.std.proofs.Common.{◌≡◌, ℕ, ◌<◌, ◌≤◌, get_or, map}
use Rattle.bit_blocks.proofs.packed.nonzero.first_nonzero_block.Given as goal

abbrev pub invariant-loop-k : goal.invariant-loop-k
invariant-loop-k g l = (j : ℕ) → l.from ≤ j → j < l.k → get_or (map g.B.BitBlock.number l.blocks) j 0 ≡ 0
