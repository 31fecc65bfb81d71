use Rattle.std.proofs.Common.{◌≡◌, ◌-◌, ◌%◌, ◌<◌, map}
use Rattle.bit_matrix.{proofs.TransposeLemmas.AreSquaresTransposed, specs.Squares.IsStrip}
use Rattle.bit_matrix.proofs.squares.transpose_strip.Given as goal

abbrev pub invariant-loop-size : goal.invariant-loop-size
invariant-loop-size g l = record {
  some : 0 < l.size;
  whole : g.B.BitBlock.width % l.size ≡ 0;
  squares : AreSquaresTransposed g.B.BitBlock.width l.width l.size (map g.B.BitBlock.number l.initial.strip) (map g.B.BitBlock.number l.strip);
  strip : IsStrip g.B.BitBlock.is_block g.B.BitBlock.width l.width l.strip;
}

abbrev pub decreases-loop-size : goal.decreases-loop-size
decreases-loop-size g l = g.B.BitBlock.width - l.size
