use Rattle.std.proofs.Common.{◌≡◌, ℕ, ◌<◌, ◌≤◌}
use Rattle.graph_walks.specs.Closed.{Joins, row}
use Rattle.graph_walks.proofs.closure.join_all.Given as goal

abbrev pub invariant-loop-row : goal.invariant-loop-row
invariant-loop-row g l = record { done : (u : ℕ) → u < l.row-index → Joins l.node l.via (row l.fn.rows u) (row l.rows u); rest : (u : ℕ) → l.row-index ≤ u → row l.rows u ≡ row l.fn.rows u }
