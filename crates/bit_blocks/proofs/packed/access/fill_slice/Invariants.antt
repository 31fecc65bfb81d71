use Rattle.std.proofs.Common.{map}
use Rattle.bit_blocks.specs.{Storage.FillsFirst, Written.WritesBlocks}
use Rattle.bit_blocks.proofs.packed.access.fill_slice.Given as goal

abbrev pub invariant-loop-k : goal.invariant-loop-k
invariant-loop-k g l = record {
  fills : FillsFirst (map g.B.BitBlock.number l.fn.blocks) (map g.B.BitBlock.number l.blocks) l.k (g.B.BitBlock.number l.block);
  written : WritesBlocks g.B.BitBlock.is_block l.fn.blocks l.blocks;
}
