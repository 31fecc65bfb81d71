use Rattle.std.proofs.Common.{map}
use Rattle.bit_blocks.specs.BlockMerges.{other_at, HasMerged}
use Rattle.bit_words.proofs.summary.merges.in_chunk.merge_any_between.Given as goal

abbrev pub invariant-loop-k : goal.invariant-loop-k
invariant-loop-k g l = record {
  has : HasMerged g.O.Operation.merge g.B.BitBlock.width g.B.BitBlock.number g.B.BitBlock.is_block l.start l.k (other_at (map g.B.BitBlock.number l.others)) l.fn.blocks l.blocks;
}
