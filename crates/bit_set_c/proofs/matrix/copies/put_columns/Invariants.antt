use Rattle.std.proofs.Common.{◌≡◌, ℕ, ◌*◌, ◌≤◌, length, true}
use Rattle.bit_set.specs.Sets.{IsAscending, has}
use Rattle.bit_matrix.specs.Matrices.{has_at, row_of}
use Rattle.bit_set_c.{proofs.RowBlocks.ArePut, specs.Block.width}
use Rattle.bit_set_c.proofs.matrix.copies.put_columns.Given as goal

-- the columns that are not left are put in, and those that are left are of the row, from the first block on
abbrev pub invariant-loop-column : goal.invariant-loop-column
invariant-loop-column l = record {
  can_next : (goal.iterator-loop-column).can_next l.column-iterator;
  finite : (goal.iterator-loop-column).is_finite l.column-iterator;
  room : length l.blocks ≡ length l.fn.blocks;
  ascends : IsAscending l.column-iterator;
  low : (c : ℕ) → has l.column-iterator c ≡ true → l.from * width ≤ c;
  of_row : (c : ℕ) → has l.column-iterator c ≡ true → has_at l.matrix l.row c ≡ true;
  columns : ArePut (row_of l.matrix l.row) l.column-iterator l.from l.blocks;
}
