use Rattle.std.proofs.Common.{refl}
use Rattle.set_algebra.{proofs.{ValueLemmas.elements-take, MemberLemmas.members_below}, specs.Sets.elements}
use Rattle.bit_set.specs.Changes.{Changes}
use Rattle.bit_set.proofs.set.BitSet.truncate.Goals as goal

pub returns-clause-elements : goal.returns-clause-elements
returns-clause-elements g c = rw (c.truncate.ensures.values, ← c.self.view_is) (elements-take c.self.inside.bits.values c.args.len)

pub returns-clause-changes : goal.returns-clause-changes
unfolding Changes
returns-clause-changes g c = (returns-clause-elements g c, refl)

pub returns-clause-members : goal.returns-clause-members
returns-clause-members g c = members_below (elements c.args.self.now.values) c.args.len (returns-clause-elements g c)
