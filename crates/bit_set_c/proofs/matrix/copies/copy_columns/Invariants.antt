use Rattle.std.proofs.Common.{◌≡◌, ◌≤◌, ◌++◌, drop, length, take}
use Rattle.bit_set.specs.Sets.{those_from}
use Rattle.bit_matrix.specs.Matrices.{row_of}
use Rattle.bit_set_c.proofs.matrix.copies.copy_columns.Given as goal

-- what is copied and what is left are all, and the rest of the slice is as it was
abbrev pub invariant-loop-column : goal.invariant-loop-column
invariant-loop-column l = record {
  can_next : (goal.iterator-loop-column).can_next l.column-iterator;
  finite : (goal.iterator-loop-column).is_finite l.column-iterator;
  room : length l.columns ≡ length l.fn.columns;
  fits : l.done ≤ length l.columns;
  all : take l.done l.columns ++ l.column-iterator ≡ those_from (row_of l.matrix l.row) l.from;
  others : drop l.done l.columns ≡ drop l.done l.fn.columns;
}
