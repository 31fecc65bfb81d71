use Rattle.std.proofs.Common.{ℕ, ◌<◌, ◌≤◌, All, length}
use Rattle.graph_walks.{specs.{Closed.row, Paths.rows_of}, proofs.CloseLemmas.{Closes, Spacious}}
use Rattle.graph_walks.proofs.closure.close.Given as goal

abbrev pub invariant-loop-node : goal.invariant-loop-node
invariant-loop-node g
    l = record { closes : Closes (rows_of l.fn.rows) l.node (rows_of l.rows); long : (u : ℕ) → u < length l.fn.rows → length (row l.rows u).values ≤ l.via.capacity; spacious : (m : ℕ) → All (λ row. (length row.values ≤ m) × (m ≤ row.capacity)) l.fn.rows → Spacious m l.fn.rows l.rows }
