use Rattle.std.proofs.Common.{◌*◌}
use Rattle.bit_matrix.specs.Merges.{IsTrackedMerge}
use Rattle.bit_matrix.proofs.merges.merge_groups.Given as goal

abbrev pub invariant-loop-group : goal.invariant-loop-group
invariant-loop-group g l = IsTrackedMerge g.O.Operation.merge g.B.BitBlock.width g.B.BitBlock.number g.B.BitBlock.is_block 0 (l.group * 16) l.fn.blocks l.others l.blocks l.fn.seen l.mismatch
