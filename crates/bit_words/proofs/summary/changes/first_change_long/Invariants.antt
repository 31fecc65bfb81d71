use Rattle.std.proofs.Common.{◌*◌}
use Rattle.bit_blocks.specs.BlockMerges.{Stay}
use Rattle.bit_words.proofs.summary.changes.first_change_long.Given as goal

abbrev pub invariant-loop-q : goal.invariant-loop-q
invariant-loop-q g l = record {
  stay : Stay g.O.Operation.merge g.B.BitBlock.width g.B.BitBlock.number 0 (l.q * g.B.BitBlock.width) (g.S.Others.digit l.others) l.blocks;
}
