use Rattle.std.proofs.Common.{◌*◌, map}
use Rattle.bit_blocks.specs.{BlockMerges.IsMergedSpan, Written.WritesBlocks}
use Rattle.bit_blocks.proofs.packed.spans.merge_with_ones.Given as goal

abbrev pub invariant-loop-k : goal.invariant-loop-k
invariant-loop-k g l = record {
  span : IsMergedSpan g.O.Operation.merge g.B.BitBlock.width (l.first * g.B.BitBlock.width) (l.k * g.B.BitBlock.width) (map g.B.BitBlock.number l.fn.blocks) (map g.B.BitBlock.number l.blocks);
  written : WritesBlocks g.B.BitBlock.is_block l.fn.blocks l.blocks;
}
