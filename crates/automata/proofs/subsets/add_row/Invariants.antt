use Rattle.std.proofs.Common.{◌≡◌, ◌+◌, ◌*◌, ◌<◌, ◌≤◌, length}
use Rattle.automata.specs.Building.{Builds}
use Rattle.automata.proofs.subsets.add_row.Given as goal

abbrev pub invariant-loop-symbol : goal.invariant-loop-symbol
invariant-loop-symbol g l = record {
  end : l.symbol-end ≡ length l.nfa.moves;
  builds : Builds l.nfa l.numbering l.next.items;
  whole : length l.next.items ≡ l.state * length l.nfa.moves + l.symbol;
  inside : l.state < length l.numbering;
  few : length l.numbering ≤ l.most;
}
