use Rattle.std.proofs.Common.{map}
use Rattle.bit_blocks.specs.Storage.{FillsFirst, WritesInPlace}
use Rattle.bit_blocks.proofs.packed.access.fill_each.Given as goal

abbrev pub invariant-loop-k : goal.invariant-loop-k
invariant-loop-k g l = record {
  fills : FillsFirst (map g.B.BitBlock.number l.fn.blocks.items) (map g.B.BitBlock.number l.blocks.items) l.k (g.B.BitBlock.number l.block);
  in_place : WritesInPlace g.B.BitBlock.is_block l.fn.blocks l.blocks;
}
