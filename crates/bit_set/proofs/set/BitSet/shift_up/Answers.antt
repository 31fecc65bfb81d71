use Rattle.std.proofs.Common.{◌-◌, length, arith}
use Rattle.bit_set.proofs.ChangeLemmas.{changes_raised}
use Rattle.set_algebra.proofs.{MovedLemmas.{members_raised, raised_by_members}, SetLemmas.IsAscending-elements}
use Rattle.bit_set.proofs.set.BitSet.shift_up.Goals as goal

pub returns-clause-members : goal.returns-clause-members
returns-clause-members g c =
    let old = c.args.self.now.values in
    let end = c.in_ok-end.ensures.ok in
    members_raised c.args.distance (c.in_ok-end.end - length old) old c.self.inside.bits.values c.shift_up.new.self.values
    (omega (arith, end)) (rw c.self.view_is c.in_ok-lengthen.ensures.ok) c.shift_up.ensures.values

pub returns-clause-elements : goal.returns-clause-elements
returns-clause-elements g c =
    raised_by_members c.args.distance _ _ (IsAscending-elements c.args.self.now.values) (IsAscending-elements c.shift_up.new.self.values) (returns-clause-members g c)

pub returns-clause-changes : goal.returns-clause-changes
returns-clause-changes g c =
    let end = c.in_ok-end.ensures.ok in
    changes_raised c.args.distance c.args.self.now.values c.shift_up.new.self.values (omega (arith, end)) (returns-clause-elements g c)
