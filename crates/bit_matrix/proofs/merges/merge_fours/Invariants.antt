use Rattle.std.proofs.Common.{◌+◌, ◌*◌}
use Rattle.bit_matrix.specs.Merges.{IsTrackedMerge}
use Rattle.bit_matrix.proofs.merges.merge_fours.Given as goal

abbrev pub invariant-loop-four : goal.invariant-loop-four
invariant-loop-four g l =
    IsTrackedMerge g.O.Operation.merge g.B.BitBlock.width g.B.BitBlock.number g.B.BitBlock.is_block l.start
    (l.start + l.four * 4) l.fn.blocks l.others l.blocks l.fn.seen l.mismatch
