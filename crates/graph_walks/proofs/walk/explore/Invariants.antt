use Rattle.std.{specs.List.sum_by, proofs.Common.{◌≡◌, ◌+◌, ◌-◌, ◌*◌, ◌^◌, length}}
use Rattle.bit_set.specs.Sets.{elements}
use Rattle.graph_walks.{specs.Paths.successors, proofs.WalkLemmas.Explores}
use Rattle.graph_walks.proofs.walk.explore.Given as goal

abbrev pub invariant-loop-node : goal.invariant-loop-node
invariant-loop-node g
    l = record { explores : Explores (g.G.Graph.rows l.graph) (elements l.fn.reached.values) (elements l.reached.values) l.stack.items; nodes : l.effort.nodes + length l.stack.items ≡ l.fn.effort.nodes + length (elements l.reached.values); edges : l.effort.edges + sum_by (λ v. length (successors (g.G.Graph.rows l.graph) v)) l.stack.items ≡ l.fn.effort.edges + sum_by (λ v. length (successors (g.G.Graph.rows l.graph) v)) (elements l.reached.values) }

abbrev pub decreases-loop-node : goal.decreases-loop-node
decreases-loop-node g l = length l.stack.items + 2 * (2 ^ 64 - length (elements l.reached.values))
