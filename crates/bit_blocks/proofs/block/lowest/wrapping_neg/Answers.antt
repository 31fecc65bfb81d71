use Rattle.std.proofs.Common.{◌+◌, ◌<◌, ◌^◌, arith}
use Rattle.bit_blocks.proofs.block.lowest.wrapping_neg.{Given.Over, Goals.After-one}
use Rattle.bit_blocks.proofs.block.lowest.wrapping_neg.Goals as goal

fits : (g : Over) (c : After-one g) → g.B.BitBlock.number c.block_not.result + g.B.BitBlock.number c.one.result < 2 ^ g.B.BitBlock.width
fits g c = omega (arith, (g.met.B.BitBlock.number_law c.args.block c.requires.of_block).0, c.requires.not_zero, c.block_not.ensures.of_number, c.one.ensures.of_number)

pub add-requires : goal.add-requires
add-requires g c = g.met.B.BitBlock.can_sum c.block_not.result c.one.result c.block_not.ensures.of_block c.one.ensures.of_block (fits g (goal.at.add-requires g c).After-one)

pub returns : goal.returns
returns g c =
    let less = fits g (goal.at.returns g c).After-one in
    let (of_block, total) = g.met.B.BitBlock.add_law c.block_not.result c.one.result c.add.result c.block_not.ensures.of_block c.one.ensures.of_block less c.add.ensures in
    record {
      of_block = of_block;
      of_number = omega (arith, total, (g.met.B.BitBlock.number_law c.args.block c.requires.of_block).0, c.block_not.ensures.of_number, c.one.ensures.of_number);
    }
