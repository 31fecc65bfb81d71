use Rattle.std.proofs.Common.{◌+◌, ◌*◌}
use Rattle.bit_blocks.specs.BlockMerges.{AreOthers}
use Rattle.bit_blocks.proofs.packed.differences.differing_group.Given as goal

abbrev pub invariant-loop-group : goal.invariant-loop-group
invariant-loop-group g l = AreOthers g.B.BitBlock.width g.B.BitBlock.number l.start (l.start + l.group * l.size) (g.S.Others.digit l.others) l.blocks
