use Rattle.std.proofs.Common.{◌≡◌, ◌-◌, ◌*◌, ◌<◌, ◌≤◌, ◌^◌, ℕ, length}
use Rattle.automata.specs.{Pairs.{does_accept, symbols_of}, Searching.{Explores, HasPlaces, pair_at}}
use Rattle.automata.proofs.equivalence.equivalent.Given as goal

abbrev pub invariant-loop-done : goal.invariant-loop-done
invariant-loop-done g l = record {
  inside : l.done ≤ length l.queue.items;
  places : HasPlaces l.a l.b l.met;
  explores : Explores l.a l.b l.queue.items l.met (l.done * symbols_of l.a l.b);
  agree : (i : ℕ) → i < l.done → does_accept l.a (pair_at l.queue.items i).left ≡ does_accept l.b (pair_at l.queue.items i).right;
}

abbrev pub decreases-loop-done : goal.decreases-loop-done
decreases-loop-done g l = 2 ^ 64 - l.done
