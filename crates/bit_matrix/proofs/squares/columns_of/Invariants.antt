use Rattle.std.proofs.Common.{◌≡◌, ℕ, ◌/◌, ◌%◌, ◌<◌, ◌==◌, ◌&&◌, nat_lt}
use Rattle.bit_blocks.specs.Digits.{is_one}
use Rattle.bit_matrix.proofs.squares.columns_of.Given as goal

-- the digits before this one are in the square or not, and the others are 0
abbrev pub invariant-loop-c : goal.invariant-loop-c
invariant-loop-c g l = record {
  of_block : g.B.BitBlock.is_block l.columns;
  digits : (c : ℕ) → c < g.B.BitBlock.width → is_one (g.B.BitBlock.number l.columns) c ≡ (nat_lt c l.c && (c / l.size % l.count == l.square));
}
