use Rattle.std.proofs.Common.{◌≡◌, ◌++◌}
use Rattle.bit_set.specs.Sets.{elements}
use Rattle.graph_walks.proofs.walk.listed.Given as goal

abbrev pub invariant-loop-element : goal.invariant-loop-element
invariant-loop-element g l = l.list.items ++ l.element-iterator.left ≡ elements l.set.values
