use Rattle.std.proofs.Common.{arith}
use Rattle.bit_words.proofs.UsedLemmas.{put_above, put_below, put_made}
use Rattle.bit_words.proofs.summary.with_used_bits.Goals as goal

pub returns-clause-made : goal.returns-clause-made
returns-clause-made g c =
    put_made _ c.args.index c.args.count c.args.start g.B.BitBlock.number _ c.args.blocks.now c.args.block _ _ _ _ _ _
    c.with_zeros_from.ensures.digits c.clear_below.ensures.digits c.block_or-kept.ensures.of_digits c.bits_from.ensures
    c.shift_left.ensures.of_digits c.block_or.ensures.of_digits c.requires.within

pub returns-clause-below : goal.returns-clause-below
returns-clause-below g c = λ j under.
    put_below _ c.args.index c.args.count c.args.start g.B.BitBlock.number _ c.args.blocks.now c.args.block _ _ _ _ _ _
    c.with_zeros_from.ensures.digits c.clear_below.ensures.digits c.block_or-kept.ensures.of_digits c.bits_from.ensures
    c.shift_left.ensures.of_digits c.block_or.ensures.of_digits j under (omega arith)

pub returns-clause-above : goal.returns-clause-above
returns-clause-above g c =
    put_above _ c.args.index c.args.count c.args.start g.B.BitBlock.number _ c.args.blocks.now c.args.block _ _ _ _ _ _
    c.with_zeros_from.ensures.digits c.clear_below.ensures.digits c.block_or-kept.ensures.of_digits c.bits_from.ensures
    c.shift_left.ensures.of_digits c.block_or.ensures.of_digits
