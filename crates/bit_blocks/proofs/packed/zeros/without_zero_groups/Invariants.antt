use Rattle.std.proofs.Common.{◌≡◌, ℕ, ◌-◌, ◌*◌, ◌≤◌, get_or, map, length}
use Rattle.bit_blocks.proofs.packed.zeros.without_zero_groups.Given as goal

abbrev pub invariant-loop-group : goal.invariant-loop-group
invariant-loop-group g l = (k : ℕ) → length l.blocks - l.group * 8 ≤ k → get_or (map g.B.BitBlock.number l.blocks) k 0 ≡ 0
