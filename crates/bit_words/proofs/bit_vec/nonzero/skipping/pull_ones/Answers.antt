use Rattle.std.proofs.{Common.{count_ones, ap, arith}, lemmas.{List.Sums.{sum_by_more_le}}}
use Rattle.bit_words.proofs.bit_vec.nonzero.skipping.pull_ones.Goals as goal

pub overflow_add-ones : goal.overflow_add-ones
overflow_add-ones g c =
    let number = g.B.BitBlock.number in
    let most = sum_by_more_le (λ x. count_ones (number x)) c.args.blocks.now c.loop-block.block-index c.block-item.result c.loop-block-test.true in
    omega (arith, most, ap (λ b. count_ones (number b)) c.block-item.is, c.count_ones-ones.ensures, c.loop-block.invariant.ones, c.requires.fits)
