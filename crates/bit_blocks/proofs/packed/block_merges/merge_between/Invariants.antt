use Rattle.bit_blocks.specs.BlockMerges.{HasMerged}
use Rattle.bit_blocks.proofs.packed.block_merges.merge_between.Given as goal

abbrev pub invariant-loop-k : goal.invariant-loop-k
invariant-loop-k g l = HasMerged g.O.Operation.merge g.B.BitBlock.width g.B.BitBlock.number g.B.BitBlock.is_block l.start l.k (g.S.Others.digit l.others) l.fn.blocks l.blocks
