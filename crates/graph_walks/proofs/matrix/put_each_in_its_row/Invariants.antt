use Rattle.std.proofs.Common.{◌≡◌, ℕ, ◌&&◌, ◌||◌, eqb, nat_lt}
use Rattle.bit_matrix.specs.Matrices.{KeepsShape, has_at}
use Rattle.graph_walks.proofs.matrix.put_each_in_its_row.Given as goal

abbrev pub invariant-loop-node : goal.invariant-loop-node
invariant-loop-node g l = record {
  bits : (u v : ℕ) → has_at l.matrix u v ≡ (has_at l.fn.matrix u v || (eqb u v && nat_lt u l.node));
  shape : KeepsShape l.fn.matrix l.matrix;
}
