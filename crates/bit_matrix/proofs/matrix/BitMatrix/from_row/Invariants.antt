use Rattle.std.proofs.Common.{◌≡◌, ℕ, ◌<◌, [], if◌then◌else◌, nat_lt, length}
use Rattle.bit_set.specs.Sets.{elements}
use Rattle.bit_matrix.specs.Matrices.{row_of}
use Rattle.bit_matrix.proofs.matrix.BitMatrix.from_row.Given as goal

-- the rows before this one have the elements, and the others none
abbrev pub invariant-loop-row : goal.invariant-loop-row
invariant-loop-row g l = record {
  each : (r : ℕ) → r < l.rows → row_of l.matrix r ≡ (if nat_lt r l.row then elements l.set.values else []);
  rows : length l.matrix.rows ≡ l.rows;
  columns : l.matrix.columns ≡ length l.set.values;
}
