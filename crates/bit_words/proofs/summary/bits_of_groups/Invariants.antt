use Rattle.std.proofs.Common.{◌*◌}
use Rattle.bit_words.specs.Summary.{SaysUsed}
use Rattle.bit_words.proofs.summary.bits_of_groups.Given as goal

abbrev pub invariant-loop-group : goal.invariant-loop-group
invariant-loop-group g l = SaysUsed g.B.BitBlock.width g.B.BitBlock.number g.B.BitBlock.is_block l.blocks l.start (l.group * 8) l.digits
