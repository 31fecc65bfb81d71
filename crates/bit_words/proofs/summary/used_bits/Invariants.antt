use Rattle.bit_words.specs.Summary.{SaysUsed}
use Rattle.bit_words.proofs.summary.used_bits.Given as goal

abbrev pub invariant-loop-j : goal.invariant-loop-j
invariant-loop-j g l = SaysUsed g.B.BitBlock.width g.B.BitBlock.number g.B.BitBlock.is_block l.blocks l.start l.j l.digits
