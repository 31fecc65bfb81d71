use Rattle.std.proofs.Common.{◌||◌, ap, ◌∙◌}
use Rattle.bit_blocks.{specs.Digits.is_one, proofs.Masks.is_one-either}
use Rattle.bit_blocks.proofs.block.masks.with_ones_between.Goals as goal

pub returns-clause-digits : goal.returns-clause-digits
returns-clause-digits g c = λ j within.
    is_one-either _ _ _ _ j c.block_or.ensures.of_digits within
    ∙ ap (λ d. is_one (g.B.BitBlock.number c.args.block) j || d) (c.ones_between.ensures.digits j within)
