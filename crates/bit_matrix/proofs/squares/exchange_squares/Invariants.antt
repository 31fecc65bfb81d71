use Rattle.std.proofs.Common.{map}
use Rattle.bit_blocks.specs.Written.{WritesBlocks}
use Rattle.bit_matrix.proofs.TransposeLemmas.{AreRowsExchanged}
use Rattle.bit_matrix.proofs.squares.exchange_squares.Given as goal

abbrev pub invariant-loop-i : goal.invariant-loop-i
invariant-loop-i g l = record {
  rows : AreRowsExchanged g.B.BitBlock.width l.stride l.size l.count l.a l.b (g.B.BitBlock.number l.left)
      (g.B.BitBlock.number l.right) l.i (map g.B.BitBlock.number l.fn.blocks) (map g.B.BitBlock.number l.blocks);
  written : WritesBlocks g.B.BitBlock.is_block l.fn.blocks l.blocks;
}
