use Rattle.std.proofs.Common.{◌-◌, ◌^◌, length}
use Rattle.bit_set.specs.{Members.IsSubset, Sets.elements}
use Rattle.uses.specs.Rows.{ReachesOnly}
use Rattle.uses.proofs.worklists.close_by_rows.Given as goal

abbrev pub invariant-loop-set : goal.invariant-loop-set
invariant-loop-set g l = record {
  more : IsSubset (elements l.fn.set.values) (elements l.set.values);
  least : ReachesOnly l.rows (elements l.fn.set.values) (elements l.set.values);
}

abbrev pub decreases-loop-set : goal.decreases-loop-set
decreases-loop-set g l = 2 ^ 64 - length (elements l.set.values)
