use Rattle.std.proofs.Common.{◌≡◌, ℕ, ◌&&◌, ◌||◌, nat_le, nat_lt}
use Rattle.bit_matrix.specs.Matrices.{KeepsShape, has_at}
use Rattle.bit_matrix.proofs.matrix.copies.insert_columns.Given as goal

-- the rows before this one are put in
abbrev pub invariant-loop-row : goal.invariant-loop-row
invariant-loop-row g l = record {
  bits : (r c : ℕ) → has_at l.transposed c r ≡ (has_at l.fn.transposed c r || (nat_lt r l.row && (nat_le l.from c && has_at l.matrix r c)));
  shape : KeepsShape l.fn.transposed l.transposed;
}
