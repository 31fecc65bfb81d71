use Rattle.std.proofs.Common.{take}
use Rattle.bit_set.specs.Sets.{elements}
use Rattle.automata.specs.{Bounds.AreWithin, Runs.{IsEnd, rows_of_sets}}
use Rattle.automata.proofs.nfa.follow.Given as goal

abbrev pub invariant-loop-symbol : goal.invariant-loop-symbol
invariant-loop-symbol g l = record {
  end : IsEnd (rows_of_sets l.moves) (elements l.fn.states.values) (take l.symbol-index l.word) (elements l.states.values);
  states : AreWithin l.states.capacity l.moves;
  next : AreWithin l.next.capacity l.moves;
}
