use Rattle.std.proofs.Common.{arith}
use Rattle.bit_blocks.proofs.BlockMergeLemmas.{merged_put}
use Rattle.bit_blocks.proofs.packed.counted.merge_block_counted.Goals as goal

pub returns-clause-has : goal.returns-clause-has
returns-clause-has g c =
    merged_put _ g.B.BitBlock.width g.B.BitBlock.number _ c.args.k _ _ _ _ _ (omega arith) c.put_in.ensures.numbers
    c.put_in.ensures.each c.put_in.ensures.len c.block_at.ensures.of_number c.of_blocks-merged.ensures.digits
