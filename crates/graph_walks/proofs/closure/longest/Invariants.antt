use Rattle.std.proofs.Common.{ℕ, ◌<◌, ◌≤◌, length}
use Rattle.graph_walks.specs.Closed.{row}
use Rattle.graph_walks.proofs.closure.longest.Given as goal

abbrev pub invariant-loop-row : goal.invariant-loop-row
invariant-loop-row g l = record {
  all : (u : ℕ) → u < l.row-index → length (row l.rows u).values ≤ l.longest;
  least : (m : ℕ) → ((u : ℕ) → u < length l.rows → length (row l.rows u).values ≤ m) → l.longest ≤ m;
}
