use Rattle.std.proofs.Common.{◌≡◌, ◌-◌, ◌*◌, ◌≤◌, length}
use Rattle.automata.specs.Building.{Builds}
use Rattle.automata.proofs.subsets.fill.Given as goal

abbrev pub invariant-loop-state : goal.invariant-loop-state
invariant-loop-state g l = record {
  builds : Builds l.nfa l.numbering l.next.items;
  whole : length l.next.items ≡ l.state * length l.nfa.moves;
  inside : l.state ≤ length l.numbering;
  few : length l.numbering ≤ l.most;
}

abbrev pub decreases-loop-state : goal.decreases-loop-state
decreases-loop-state g l = l.most - l.state
