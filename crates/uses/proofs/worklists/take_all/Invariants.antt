use Rattle.bit_set.specs.{Measures.turns_left, Members.IsSubset, Sets.elements}
use Rattle.uses.specs.Rows.{IsClosedBut, ReachesOnly}
use Rattle.uses.proofs.worklists.take_all.Given as goal

abbrev pub invariant-loop : goal.invariant-loop
invariant-loop g l = record {
  more : IsSubset (elements l.fn.set.values) (elements l.set.values);
  closed : IsClosedBut l.rows (elements l.set.values) (elements l.pending.values);
  least : ReachesOnly l.rows (elements l.fn.set.values) (elements l.set.values);
}

abbrev pub decreases-loop : goal.decreases-loop
decreases-loop g l = turns_left (elements l.set.values) (elements l.pending.values)
