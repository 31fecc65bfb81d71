use Rattle.std.proofs.Common.{◌≡◌, ℕ, [], length}
use Rattle.dataflow.specs.Worklist.{row_at, rows_of}
use Rattle.dataflow.proofs.dependents.empty_rows.Given as goal

abbrev pub invariant-rows : goal.invariant-rows
invariant-rows l = record { long : length l.rows.items ≡ l.counter; empty : (s : ℕ) → row_at (rows_of l.rows.items) s ≡ [] }
