use Rattle.std.proofs.Common.{◌≡◌, ◌+◌, ◌-◌, ◌*◌, ◌^◌, ◌<◌, ◌++◌, ◌∷◌, [], true, length, refl, ap, sym, ◌∙◌, add-zero, arith}
use Rattle.std.proofs.lemmas.Result.{err_from_is_err_and}
use Rattle.bit_set.specs.{Bounds.greatest, Sets.{elements, has}}
use Rattle.graph_walks.specs.{Explored.TakesOn, Paths.successors, RowLaws.none_left}
use Rattle.graph_walks.proofs.WalkLemmas.{Counts, counts_on, edge_of_node, explored, explores_first, explores_on, given_all, given_at_last, nearer_end, no_row, nothing_taken}
use Rattle.graph_walks.proofs.walk.explore.Goals as goal
use Rattle.graph_walks.proofs.walk.explore.Goals.{in-Some-successors+in_ok-take_on, in_default-successors}

pub loop-node-init : goal.loop-node-init
loop-node-init g c = record {
  explores = rw c.requires (explores_first (g.G.Graph.rows c.args.graph) (elements c.args.reached.now.values));
  nodes = rw c.requires refl;
  edges = rw c.requires refl;
}

pub returns-in_err-take_on-clause-element : goal.returns-in_err-take_on-clause-element
returns-in_err-take_on-clause-element g c =
    let p = err_from_is_err_and c.from_residual.result c.from_residual.ensures.1 in
    rw (p.1, p.2) (λ is.
    let found = c.in_err-take_on.ensures.element is in
    let edge : has (successors (g.G.Graph.rows c.args.graph) c.in-Some.node) greatest ≡ true =
    ap (λ row. has row greatest) (sym c.in-Some-successors.ensures.all)
    ∙ given_at_last g.G.Successors.Iterator.next_gives g.G.Graph.left g.met.G.Graph.in_order c.in-Some-successors.successors
    found.0 greatest found.1 found.2 in
    edge_of_node _ _ _ _ c.in-Some.node (rw c.in-Some.ensures.items at c.loop-node.invariant.explores) greatest edge)

pub loop-node-preserved : goal.loop-node-preserved
loop-node-preserved g c =
    let rows = g.G.Graph.rows c.args.graph in
    let before = rw c.in-Some.ensures.items at c.loop-node.invariant.explores in
    let counted : Counts rows _ _ (elements c.loop-node.reached.values)
    (c.pop.new.self.items ++ c.in-Some.node ∷ []) c.loop-node.effort.nodes
    c.loop-node.effort.edges = record { expanded = rw c.in-Some.ensures.items at c.loop-node.invariant.nodes; looked_at = rw c.in-Some.ensures.items at c.loop-node.invariant.edges } in
    elim c.match-successors.branch [
      | in-Some-successors+in_ok-take_on w ↦
          let given = w.in_ok-take_on.ensures.all in
          let row : given.0 ≡ successors rows c.in-Some.node =
          given_all g.G.Successors.Iterator.next_gives g.G.Graph.left g.met.G.Graph.in_order w.in-Some-successors.successors
          given.0 given.1 ∙ w.in-Some-successors.ensures.all in
          let taken : TakesOn (successors rows c.in-Some.node) (elements c.loop-node.reached.values) c.pop.new.self.items
          (elements w.take_on.new.reached.values) w.take_on.new.stack.items = rw row at given.2 in
          let after = counts_on _ _ _ _ _ _ taken _ _ _ _ _ _ c.tick.ensures (given.3 ∙ ap (λ xs. c.loop-node.effort.edges + length xs) row) counted in
          rw (w.reached-is, w.effort-is, w.stack-is) (record { explores = explores_on _ _ _ _ _ before _ _ taken; nodes = after.expanded; edges = after.looked_at })
      | in_default-successors w ↦
          let none : successors rows c.in-Some.node ≡ [] = no_row rows c.in-Some.node w.in_default-successors.ensures.past in
          let taken : TakesOn (successors rows c.in-Some.node) (elements c.loop-node.reached.values) c.pop.new.self.items
          (elements c.loop-node.reached.values) c.pop.new.self.items = rw none (nothing_taken _ _) in
          let unmoved : c.loop-node.effort.edges ≡ c.loop-node.effort.edges + length (successors rows c.in-Some.node) = rw none (sym (add-zero c.loop-node.effort.edges)) in
          let after = counts_on _ _ _ _ _ _ taken _ _ _ _ _ _ c.tick.ensures unmoved counted in
          rw (w.reached-is, w.effort-is, w.stack-is) (record { explores = explores_on _ _ _ _ _ before _ _ taken; nodes = after.expanded; edges = after.looked_at })
    ]

pub loop-node-smaller : goal.loop-node-smaller
loop-node-smaller g c =
    let rows = g.G.Graph.rows c.args.graph in
    let few : length (elements c.match-successors.reached.values) < 2 ^ 64 = c.bounded.ensures.few in
    let smaller : length c.match-successors.stack.items + 2 * (2 ^ 64 - length
    (elements c.match-successors.reached.values)) < length c.loop-node.stack.items + 2 * (2 ^ 64 - length
    (elements c.loop-node.reached.values)) =
    elim c.match-successors.branch [
      | in-Some-successors+in_ok-take_on w ↦
          let given = w.in_ok-take_on.ensures.all in
          let row : given.0 ≡ successors rows c.in-Some.node =
          given_all g.G.Successors.Iterator.next_gives g.G.Graph.left g.met.G.Graph.in_order w.in-Some-successors.successors
          given.0 given.1 ∙ w.in-Some-successors.ensures.all in
          let taken : TakesOn (successors rows c.in-Some.node) (elements c.loop-node.reached.values) c.pop.new.self.items
          (elements w.take_on.new.reached.values) w.take_on.new.stack.items = rw row at given.2 in
          rw (w.reached-is, w.stack-is, c.in-Some.ensures.items) (nearer_end _ _ _ _ _ _ taken (2 ^ 64) (rw w.reached-is at few))
      | in_default-successors w ↦
          let none : successors rows c.in-Some.node ≡ [] = no_row rows c.in-Some.node w.in_default-successors.ensures.past in
          let taken : TakesOn (successors rows c.in-Some.node) (elements c.loop-node.reached.values) c.pop.new.self.items
          (elements c.loop-node.reached.values) c.pop.new.self.items = rw none (nothing_taken _ _) in
          rw (w.reached-is, w.stack-is, c.in-Some.ensures.items) (nearer_end _ _ _ _ _ _ taken (2 ^ 64) (rw w.reached-is at few))
    ] in
    smaller

pub returns-clause-paths : goal.returns-clause-paths
returns-clause-paths g c =
    let none : length c.loop-node.stack.items ≡ 0 = omega (arith, c.loop-node.stack.ok.0, c.in_default.ensures.cases.0) in
    explored (g.G.Graph.rows c.args.graph) (elements c.args.reached.now.values) (elements c.loop-node.reached.values) (rw (none_left _ none) at c.loop-node.invariant.explores)
