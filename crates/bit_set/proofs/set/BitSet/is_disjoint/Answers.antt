use Rattle.set_algebra.{proofs.{SubsetLemmas.is_disjoint-elements, MemberLemmas.tells_disjoint}, specs.Sets.elements}
use Rattle.bit_set.proofs.set.BitSet.is_disjoint.Goals as goal

pub returns-clause-returned : goal.returns-clause-returned
returns-clause-returned g c =
    rw (← c.self.view_is, ← c.other.view_is) (is_disjoint-elements c.is_disjoint.result c.self.inside.bits.values c.other.inside.bits.values c.is_disjoint.ensures)

pub returns-clause-members : goal.returns-clause-members
returns-clause-members g c = tells_disjoint c.is_disjoint.result (elements c.args.self.now.values) (elements c.args.other.now.values) (returns-clause-returned g c)
