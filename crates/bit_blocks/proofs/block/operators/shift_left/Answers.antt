use Rattle.bit_blocks.proofs.Words.{shifted_left-number}
use Rattle.bit_blocks.proofs.block.operators.shift_left.Goals as goal

pub returns-clause-of_number : goal.returns-clause-of_number
returns-clause-of_number g c =
    shifted_left-number _ _ _ _ c.requires.within (g.met.B.BitBlock.number_law c.shift_left.result c.shift_left.ensures.of_block).0 c.shift_left.ensures.of_digits
