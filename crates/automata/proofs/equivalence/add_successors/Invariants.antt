use Rattle.std.proofs.Common.{◌≡◌, ◌+◌, ◌*◌, ◌<◌, ◌≤◌, ℕ, length}
use Rattle.automata.specs.{Pairs.symbols_of, Searching.{Explores, HasPlaces, pair_at}}
use Rattle.automata.proofs.equivalence.add_successors.Given as goal

abbrev pub invariant-loop-symbol : goal.invariant-loop-symbol
invariant-loop-symbol g l = record {
  end : l.symbol-end ≡ symbols_of l.a l.b;
  explores : Explores l.a l.b l.queue.items l.met (l.done * symbols_of l.a l.b + l.symbol);
  more : length l.fn.queue.items ≤ length l.queue.items;
  same : (i : ℕ) → i < length l.fn.queue.items → pair_at l.queue.items i ≡ pair_at l.fn.queue.items i;
  places : HasPlaces l.a l.b l.met;
}
