use Rattle.std.proofs.Common.{◌∙◌, ap, not}
use Rattle.bit_blocks.proofs.Masks.{is_one-complement, is_one-ones, not_lt-le}
use Rattle.bit_blocks.proofs.block.masks.ones_from.Goals as goal

pub returns-clause-digits : goal.returns-clause-digits
returns-clause-digits g c = λ j within.
    is_one-complement _ _ _ j c.block_not.ensures.of_digits within
    ∙ ap not (is_one-ones _ c.args.index j c.ones_below.ensures.of_number)
    ∙ not_lt-le j c.args.index
