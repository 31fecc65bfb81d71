use Rattle.std.proofs.Common.{map}
use Rattle.bit_blocks.specs.Written.{WritesBlocks}
use Rattle.bit_matrix.proofs.TransposeLemmas.{ArePairsDone}
use Rattle.bit_matrix.proofs.squares.transpose_groups.Given as goal

abbrev pub invariant-loop-b : goal.invariant-loop-b
invariant-loop-b g l = record {
  pairs : ArePairsDone g.B.BitBlock.width l.stride l.size l.count l.b 0 (map g.B.BitBlock.number l.fn.blocks) (map g.B.BitBlock.number l.blocks);
  written : WritesBlocks g.B.BitBlock.is_block l.fn.blocks l.blocks;
}

abbrev pub invariant-loop-a : goal.invariant-loop-a
invariant-loop-a g l = record {
  pairs : ArePairsDone g.B.BitBlock.width l.stride l.size l.count l.b l.a (map g.B.BitBlock.number l.fn.blocks) (map g.B.BitBlock.number l.blocks);
  written : WritesBlocks g.B.BitBlock.is_block l.fn.blocks l.blocks;
}
