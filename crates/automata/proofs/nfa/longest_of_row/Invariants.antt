use Rattle.std.proofs.Common.{ℕ, ◌<◌, ◌≤◌, length}
use Rattle.automata.specs.Bounds.{IsRowWithin, set_at}
use Rattle.automata.proofs.nfa.longest_of_row.Given as goal

abbrev pub invariant-loop-set : goal.invariant-loop-set
invariant-loop-set g l = record {
  all : (u : ℕ) → u < l.set-index → length (set_at l.row u).values ≤ l.longest;
  least : (n : ℕ) → IsRowWithin n l.row → l.longest ≤ n;
}
