use Rattle.std.proofs.{Common.{◌+◌, count_ones, take_all, ap, ◌∙◌, arith}, lemmas.List.Sums.{sum_by_more, sum_by_more_le}}
use Rattle.bit_blocks.specs.Storage.{ones_in}
use Rattle.bit_blocks.proofs.packed.ones.add_ones.Goals as goal

pub overflow_add-ones : goal.overflow_add-ones
overflow_add-ones g c =
    let number = g.B.BitBlock.number in
    let most = sum_by_more_le (λ x. count_ones (number x)) c.args.blocks.now c.loop-block.block-index c.block-item.result c.loop-block-test.true in
    omega (arith, most, ap (λ b. count_ones (number b)) c.block-item.is, c.count_ones-ones.ensures, c.loop-block.invariant, c.requires.fits)

pub loop-block-preserved : goal.loop-block-preserved
loop-block-preserved g c =
    let number = g.B.BitBlock.number in
    let more = sum_by_more (λ x. count_ones (number x)) c.args.blocks.now c.loop-block.block-index c.block-item.result c.loop-block-test.true in
    omega (arith, more, ap (λ b. count_ones (number b)) c.block-item.is, c.count_ones-ones.ensures, c.loop-block.invariant)

pub returns : goal.returns
returns g c =
    c.loop-block.invariant
    ∙ ap (λ ones. c.args.before + ones_in g.B.BitBlock.number ones) (take_all c.loop-block.block-index c.args.blocks.now (omega (arith, c.loop-block-test.false)))
