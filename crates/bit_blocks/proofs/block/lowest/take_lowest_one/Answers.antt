use Rattle.std.proofs.Common.{arith}
use Rattle.bit_blocks.proofs.block.lowest.take_lowest_one.Goals as goal

pub returns-clause-cleared : goal.returns-clause-cleared
returns-clause-cleared g c =
    let both = rw (c.block_sub.ensures.of_number, c.one-2.ensures.of_number) at c.block_and.ensures.of_digits in
    rw c.count_ones.ensures (c.isolate_lowest_one.ensures.isolated.cleared _ _
    (omega (arith, c.isolate_lowest_one.ensures.isolated.some, c.block_sub-below.ensures.of_number, c.one.ensures.of_number))
    both)
