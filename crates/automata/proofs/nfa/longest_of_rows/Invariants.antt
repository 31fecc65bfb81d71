use Rattle.std.proofs.Common.{ℕ, ◌<◌, ◌≤◌, map, [], get_or}
use Rattle.automata.specs.Bounds.{AreWithin, IsRowWithin}
use Rattle.automata.proofs.nfa.longest_of_rows.Given as goal

abbrev pub invariant-loop-row : goal.invariant-loop-row
invariant-loop-row g l = record {
  all : (symbol : ℕ) → symbol < l.row-index → IsRowWithin l.longest (get_or (map (λ row. row.items) l.rows) symbol []);
  least : (n : ℕ) → AreWithin n l.rows → l.longest ≤ n;
}
