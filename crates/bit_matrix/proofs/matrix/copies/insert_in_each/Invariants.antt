use Rattle.std.proofs.Common.{◌≡◌, ℕ, ◌==◌, ◌&&◌, ◌||◌, true, nat_le}
use Rattle.bit_set.specs.Sets.{has}
use Rattle.bit_matrix.specs.Matrices.{KeepsShape, has_at}
use Rattle.bit_matrix.proofs.matrix.copies.insert_in_each.Given as goal

-- what is put in and what is left are the row
abbrev pub invariant-loop-column : goal.invariant-loop-column
invariant-loop-column g l = record {
  bits : (r c : ℕ) → (has_at l.transposed c r || (r == l.row && has l.column-iterator c)) ≡ (has_at l.fn.transposed c r || (r == l.row && (nat_le l.from c && has_at l.matrix l.row c)));
  inside : (c : ℕ) → has l.column-iterator c ≡ true → (nat_le l.from c && has_at l.matrix l.row c) ≡ true;
  shape : KeepsShape l.fn.transposed l.transposed;
}
