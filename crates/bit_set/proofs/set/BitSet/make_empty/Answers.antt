use Rattle.std.proofs.Common.{length, refl, ap}
use Rattle.set_algebra.{proofs.ValueLemmas.elements-all_false, specs.Sets.has}
use Rattle.bit_set.specs.Changes.{Changes}
use Rattle.bit_set.proofs.set.BitSet.make_empty.Goals as goal

pub returns-clause-elements : goal.returns-clause-elements
returns-clause-elements g c = rw c.fill.ensures.values (elements-all_false (length c.self.inside.bits.values))

pub returns-clause-changes : goal.returns-clause-changes
unfolding Changes
returns-clause-changes g c = (returns-clause-elements g c, refl)

pub returns-clause-members : goal.returns-clause-members
returns-clause-members g c m = ap (λ s. has s m) (returns-clause-elements g c)
