use Rattle.bit_matrix.specs.Matrices.{KeepsShape}
use Rattle.graph_walks.proofs.FollowLemmas.{FollowsAll, FollowsBefore}
use Rattle.graph_walks.proofs.matrix.transitive_closure.Given as goal

abbrev pub invariant-loop-row : goal.invariant-loop-row
invariant-loop-row g l = record {
  follows : FollowsBefore l.fn.reaches l.reaches l.row;
  shape : KeepsShape l.fn.reaches l.reaches;
}

abbrev pub invariant-loop-row-2 : goal.invariant-loop-row-2
invariant-loop-row-2 g l = record {
  follows : FollowsAll l.fn.reaches l.reaches l.row;
  shape : KeepsShape l.fn.reaches l.reaches;
}
