use Rattle.std.proofs.Common.{◌&&◌, ap, ◌∙◌}
use Rattle.bit_blocks.{specs.Digits.is_one, proofs.Masks.{is_one-both, is_one-complement}}
use Rattle.bit_blocks.proofs.block.operation.DifferenceOperation.of_blocks.Goals as goal

pub returns-clause-digits : goal.returns-clause-digits
returns-clause-digits g c = λ i within.
    is_one-both _ _ _ _ i c.block_and.ensures.of_digits within
    ∙ ap (λ d. is_one (g.B.BitBlock.number c.args.a) i && d) (is_one-complement _ _ _ i c.block_not.ensures.of_digits within)
