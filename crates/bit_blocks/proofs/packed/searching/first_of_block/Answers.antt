use Rattle.std.proofs.Common.{◌+◌, ◌*◌, map, arith}
use Rattle.bit_blocks.{specs.{Searches.IsFirstFrom, Storage.value_at}, proofs.{SearchLemmas.first_of_whole, packed.searching.first_of_block.Given.Over}}
use Rattle.bit_blocks.proofs.packed.searching.first_of_block.Goals.{After-bits}
use Rattle.bit_blocks.proofs.packed.searching.first_of_block.Goals as goal

found : (g : Over) (c : After-bits g) → IsFirstFrom (value_at g.B.BitBlock.width (map g.B.BitBlock.number c.args.blocks.now))
    (c.args.k * g.B.BitBlock.width) (c.args.k * c.bits.result + c.lowest_one-index.result)
found g c =
    first_of_whole g.B.BitBlock.width (map g.B.BitBlock.number c.args.blocks.now) c.args.k _ c.bits.result
    c.lowest_one-index.result c.block_or_zero.ensures.of_number c.bits.ensures
    c.lowest_one-index.ensures.within c.lowest_one-index.ensures.lowest

pub overflow_mul-result : goal.overflow_mul-result
overflow_mul-result g c = omega (arith, c.requires.fits _ (found g (goal.at.overflow_mul-result g c).After-bits).passes)

pub overflow_add-result : goal.overflow_add-result
overflow_add-result g c = omega (arith, c.requires.fits _ (found g (goal.at.overflow_add-result g c).After-bits).passes)

pub returns : goal.returns
returns g c = found g (goal.at.returns g c).After-bits
