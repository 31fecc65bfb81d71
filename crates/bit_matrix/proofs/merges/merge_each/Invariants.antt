use Rattle.std.proofs.Common.{◌+◌}
use Rattle.bit_matrix.specs.Merges.{IsTrackedMerge}
use Rattle.bit_matrix.proofs.merges.merge_each.Given as goal

abbrev pub invariant-loop-k : goal.invariant-loop-k
invariant-loop-k g l = IsTrackedMerge g.O.Operation.merge g.B.BitBlock.width g.B.BitBlock.number g.B.BitBlock.is_block l.start (l.start + l.k) l.fn.blocks l.others l.blocks l.fn.seen l.mismatch
