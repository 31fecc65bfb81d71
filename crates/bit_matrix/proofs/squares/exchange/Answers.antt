use Rattle.bit_matrix.proofs.SquareLemmas.{exchanged}
use Rattle.bit_matrix.proofs.squares.exchange.Goals as goal

pub returns-clause-exchanged : goal.returns-clause-exchanged
returns-clause-exchanged g c =
    exchanged _ _ _ _ _ _ _ _ _ _ _ _ _ _ _ _ c.shift_left.ensures.of_digits c.block_and-up.ensures.of_digits
    c.shift_right.ensures.of_digits c.block_and-down.ensures.of_digits c.block_not.ensures.of_digits
    c.block_and.ensures.of_digits c.block_or.ensures.of_digits c.block_not-2.ensures.of_digits
    c.block_and-2.ensures.of_digits c.block_or-2.ensures.of_digits
