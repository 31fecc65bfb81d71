use Rattle.std.proofs.Common.{◌≡◌, ℕ, ◌*◌, ◌&&◌, nat_lt}
use Rattle.bit_matrix.specs.Matrices.{HasTurnedShape, has_at}
use Rattle.bit_matrix.proofs.matrix.BitMatrix.transpose.Given as goal

-- the columns of the blocks before this one are there
abbrev pub invariant-loop-k : goal.invariant-loop-k
invariant-loop-k g l = record {
  bits : (r c : ℕ) → has_at l.transposed c r ≡ (nat_lt c (l.k * g.B.BitBlock.width) && has_at l.self r c);
  shape : HasTurnedShape l.self l.transposed;
}
