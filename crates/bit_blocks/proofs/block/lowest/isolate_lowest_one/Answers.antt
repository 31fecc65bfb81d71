use Rattle.bit_blocks.proofs.LowestStep.{isolated}
use Rattle.bit_blocks.proofs.block.lowest.isolate_lowest_one.Goals as goal

pub returns-clause-isolated : goal.returns-clause-isolated
returns-clause-isolated g c =
    let law = g.met.B.BitBlock in
    isolated _ _ _ _ c.requires.not_zero (law.number_law c.args.block c.requires.of_block).0 (law.number_law c.block_and.result c.block_and.ensures.of_block).0
    c.wrapping_neg.ensures.of_number c.block_and.ensures.of_digits
