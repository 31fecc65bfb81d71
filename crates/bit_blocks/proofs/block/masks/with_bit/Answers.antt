use Rattle.std.proofs.Math.Bool.{and-false, and-true, or-false, or-true}
use Rattle.bit_blocks.proofs.Masks.{is_one-both, is_one-either, is_one-complement, is_one-pow_same, is_one-pow_other}
use Rattle.bit_blocks.proofs.block.masks.with_bit.Goals as goal

pub returns-then-bit-clause-same : goal.returns-then-bit-clause-same
returns-then-bit-clause-same g c =
    rw (is_one-either _ _ _ _ c.args.index c.block_or.ensures.of_digits c.requires.within, is_one-pow_same _ c.args.index c.one_at-mask.ensures.of_number, or-true, c.if-bit.true)

pub returns-then-bit-clause-others : goal.returns-then-bit-clause-others
returns-then-bit-clause-others g c = λ j within other.
    rw (is_one-either _ _ _ _ j c.block_or.ensures.of_digits within, is_one-pow_other _ c.args.index j c.one_at-mask.ensures.of_number other, or-false)

pub returns-else-bit-clause-same : goal.returns-else-bit-clause-same
returns-else-bit-clause-same g c =
    rw (is_one-both _ _ _ _ c.args.index c.block_and.ensures.of_digits c.requires.within, is_one-complement _ _ _ c.args.index c.block_not.ensures.of_digits c.requires.within)
    (rw (is_one-pow_same _ c.args.index c.one_at-mask.ensures.of_number, and-false, c.if-bit.false))

pub returns-else-bit-clause-others : goal.returns-else-bit-clause-others
returns-else-bit-clause-others g c = λ j within other.
    rw (is_one-both _ _ _ _ j c.block_and.ensures.of_digits within, is_one-complement _ _ _ j c.block_not.ensures.of_digits within)
    (rw (is_one-pow_other _ c.args.index j c.one_at-mask.ensures.of_number other, and-true))
