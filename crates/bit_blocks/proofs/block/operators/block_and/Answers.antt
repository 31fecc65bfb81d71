use Rattle.bit_blocks.proofs.Words.{both-number}
use Rattle.bit_blocks.proofs.block.operators.block_and.Goals as goal

pub bitand-requires : goal.bitand-requires
bitand-requires g c = g.met.B.BitBlock.can_and c.args.a c.args.b c.requires.left c.requires.right

pub returns : goal.returns
returns g c =
    let law = g.met.B.BitBlock in
    let (of_block, digits) = law.and_law c.args.a c.args.b c.bitand.result c.requires.left c.requires.right c.bitand.ensures in
    record {
      of_block = of_block;
      of_digits = digits;
      of_number = both-number _ _ _ _ (law.number_law c.args.a c.requires.left).0 (law.number_law c.bitand.result of_block).0 digits;
    }
