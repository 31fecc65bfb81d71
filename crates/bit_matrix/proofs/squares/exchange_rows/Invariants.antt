use Rattle.std.proofs.Common.{map}
use Rattle.bit_blocks.specs.Written.{WritesBlocks}
use Rattle.bit_matrix.specs.Squares.{AreExchanged}
use Rattle.bit_matrix.proofs.squares.exchange_rows.Given as goal

abbrev pub invariant-loop-g : goal.invariant-loop-g
invariant-loop-g g l = record {
  exchanged : AreExchanged g.B.BitBlock.width l.distance (g.B.BitBlock.number l.left)
      (g.B.BitBlock.number l.right) l.upper l.lower l.g (map g.B.BitBlock.number l.fn.blocks) (map g.B.BitBlock.number l.blocks);
  written : WritesBlocks g.B.BitBlock.is_block l.fn.blocks l.blocks;
}
