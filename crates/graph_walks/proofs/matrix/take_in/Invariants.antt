use Rattle.std.proofs.Common.{◌≡◌, ◌≢◌, ℕ, ◌-◌, ◌<◌, ◌≤◌, List}
use Rattle.bit_matrix.specs.Matrices.{KeepsShape, row_of}
use Rattle.graph_walks.specs.Closed.{Follows, IsOnTheWay}
use Rattle.graph_walks.proofs.matrix.take_in.Given as goal

-- the row follows the edges up to the next node
abbrev pub invariant-loop-node : goal.invariant-loop-node
invariant-loop-node g l = record {
  follows : (graph : List (List ℕ)) → ((j : ℕ) → l.from ≤ j → j < l.to → Follows graph j j (row_of l.fn.reaches j))
      → Follows graph l.row l.from (row_of l.fn.reaches l.row) → Follows graph l.row l.next (row_of l.reaches l.row);
  way : IsOnTheWay l.fn.reaches.rows l.reaches.rows;
  others : (q : ℕ) → q ≢ l.row → row_of l.reaches q ≡ row_of l.fn.reaches q;
  shape : KeepsShape l.fn.reaches l.reaches;
  above : l.from ≤ l.next;
}

abbrev pub decreases-loop-node : goal.decreases-loop-node
decreases-loop-node g l = l.to - l.next
