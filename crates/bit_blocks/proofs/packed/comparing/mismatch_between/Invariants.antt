use Rattle.std.proofs.Common.{◌≡◌, ℕ, ◌<◌, get_or, map}
use Rattle.bit_blocks.proofs.packed.comparing.mismatch_between.Given as goal

abbrev pub invariant-loop-k : goal.invariant-loop-k
invariant-loop-k g l = (j : ℕ) → j < l.k → get_or (map g.B.BitBlock.number l.a) j 0 ≡ get_or (map g.B.BitBlock.number l.b) j 0
