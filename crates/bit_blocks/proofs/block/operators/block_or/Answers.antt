use Rattle.bit_blocks.proofs.Words.{either-number}
use Rattle.bit_blocks.proofs.block.operators.block_or.Goals as goal

pub bitor-requires : goal.bitor-requires
bitor-requires g c = g.met.B.BitBlock.can_or c.args.a c.args.b c.requires.left c.requires.right

pub returns : goal.returns
returns g c =
    let law = g.met.B.BitBlock in
    let (of_block, digits) = law.or_law c.args.a c.args.b c.bitor.result c.requires.left c.requires.right c.bitor.ensures in
    record {
      of_block = of_block;
      of_digits = digits;
      of_number = either-number _ _ _ _ (law.number_law c.args.a c.requires.left).0 (law.number_law c.args.b c.requires.right).0 (law.number_law c.bitor.result of_block).0 digits;
    }
