use Rattle.std.proofs.Common.{◌≡◌}
use Rattle.bit_set.specs.Sets.{elements}
use Rattle.automata.{specs.{Bounds.IsRowWithin, Runs.row_of_sets}, proofs.StepLemmas.Gathers}
use Rattle.automata.proofs.step.image.Given as goal

abbrev pub invariant-loop-state : goal.invariant-loop-state
invariant-loop-state g l = record {
  can_next : (goal.iterator-loop-state g).can_next l.state-iterator;
  finite : (goal.iterator-loop-state g).is_finite l.state-iterator;
  gathers : Gathers (row_of_sets l.row) (elements l.states.values) l.state-iterator.left (elements l.into.values);
  capacity : IsRowWithin l.fn.into.capacity l.row → l.into.capacity ≡ l.fn.into.capacity;
}
