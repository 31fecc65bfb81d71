use Rattle.set_algebra.{proofs.{SubsetLemmas.is_subset-elements, MemberLemmas.tells_subset}, specs.Sets.elements}
use Rattle.bit_set.proofs.set.BitSet.is_subset.Goals as goal

pub returns-clause-returned : goal.returns-clause-returned
returns-clause-returned g c =
    rw (← c.self.view_is, ← c.other.view_is) (is_subset-elements c.is_subset.result c.self.inside.bits.values c.other.inside.bits.values c.is_subset.ensures)

pub returns-clause-members : goal.returns-clause-members
returns-clause-members g c = tells_subset c.is_subset.result (elements c.args.self.now.values) (elements c.args.other.now.values) (returns-clause-returned g c)
