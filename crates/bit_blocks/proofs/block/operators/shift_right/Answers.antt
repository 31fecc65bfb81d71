use Rattle.bit_blocks.proofs.Words.{shifted_right-number}
use Rattle.bit_blocks.proofs.block.operators.shift_right.Goals as goal

pub returns-clause-of_number : goal.returns-clause-of_number
returns-clause-of_number g c =
    let law = g.met.B.BitBlock in
    shifted_right-number _ _ _ _ (law.number_law c.args.a c.requires.left).0 (law.number_law c.shift_right.result c.shift_right.ensures.of_block).0 c.shift_right.ensures.of_digits
