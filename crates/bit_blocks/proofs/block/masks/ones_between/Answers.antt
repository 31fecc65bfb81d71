use Rattle.std.proofs.Common.{◌&&◌, ap₂, ◌∙◌}
use Rattle.bit_blocks.proofs.Masks.{is_one-both, is_one-ones}
use Rattle.bit_blocks.proofs.block.masks.ones_between.Goals as goal

pub returns-clause-digits : goal.returns-clause-digits
returns-clause-digits g c = λ j within.
    is_one-both _ _ _ _ j c.block_and.ensures.of_digits within
    ∙ ap₂ (λ a b. a && b) (is_one-ones _ c.args.end j c.ones_below.ensures.of_number) (c.ones_from.ensures.digits j within)
