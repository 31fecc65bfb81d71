use Rattle.std.proofs.Common.{◌≡◌, ℕ, ◌<◌, ◌≤◌, ◌==◌, ◌&&◌, not, length}
use Rattle.bit_matrix.specs.Matrices.{has_at}
use Rattle.uses.proofs.matrices.remove_column.Given as goal

-- the rows before the next one lack the column, and those from it on are as at first
abbrev pub invariant-loop-row : goal.invariant-loop-row
invariant-loop-row g l = record {
  done : (r c : ℕ) → r < l.row → has_at l.matrix r c ≡ (not (l.column == c) && has_at l.fn.matrix r c);
  rest : (r c : ℕ) → l.row ≤ r → has_at l.matrix r c ≡ has_at l.fn.matrix r c;
  rows : length l.matrix.rows ≡ length l.fn.matrix.rows;
  columns : l.matrix.columns ≡ l.fn.matrix.columns;
}
