use Rattle.std.proofs.Common.{◌≡◌, ◌+◌, length}
use Rattle.bit_set.specs.Sets.{elements}
use Rattle.graph_walks.specs.Explored.{TakesOn}
use Rattle.graph_walks.proofs.walk.take_on.Given as goal

abbrev pub invariant-loop-item : goal.invariant-loop-item
invariant-loop-item g
    l = record { taken : TakesOn l.yielded (elements l.fn.reached.values) l.fn.stack.items (elements l.reached.values) l.stack.items; edges : l.edges ≡ l.fn.edges + length l.yielded }
