use Rattle.std.proofs.Common.{◌≡◌, ℕ, ◌≤◌, map, get_or}
use Rattle.bit_blocks.proofs.packed.zeros.used_blocks.Given as goal

abbrev pub invariant-loop-k : goal.invariant-loop-k
invariant-loop-k g l = (q : ℕ) → l.k ≤ q → get_or (map g.B.BitBlock.number l.blocks) q 0 ≡ 0
