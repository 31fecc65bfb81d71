use Rattle.std.proofs.Common.{refl}
use Rattle.bit_set.specs.Changes.{Changes}
use Rattle.set_algebra.proofs.{MovedLemmas.{lowered_by_members, members_lowered}, SetLemmas.IsAscending-elements}
use Rattle.bit_set.proofs.set.BitSet.shift_down.Goals as goal

pub returns-clause-members : goal.returns-clause-members
returns-clause-members g c = rw (← c.self.view_is) (members_lowered c.args.distance c.self.inside.bits.values c.shift_down.new.self.values c.shift_down.ensures.values)

pub returns-clause-elements : goal.returns-clause-elements
returns-clause-elements g c = lowered_by_members c.args.distance _ _ (IsAscending-elements c.args.self.now.values) (IsAscending-elements c.shift_down.new.self.values) (returns-clause-members g c)

pub returns-clause-changes : goal.returns-clause-changes
unfolding Changes
returns-clause-changes g c = (returns-clause-elements g c, refl)
