use Rattle.bit_blocks.proofs.Words.{complement-number}
use Rattle.bit_blocks.proofs.block.operators.block_not.Goals as goal

pub returns : goal.returns
returns g c =
    let law = g.met.B.BitBlock in
    let (of_block, digits) = law.not_law c.args.a c.not.result c.requires c.not.ensures in
    record {
      of_block = of_block;
      of_digits = digits;
      of_number = complement-number _ _ _ (law.number_law c.args.a c.requires).0 (law.number_law c.not.result of_block).0 digits;
    }
