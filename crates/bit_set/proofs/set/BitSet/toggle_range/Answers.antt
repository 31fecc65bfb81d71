use Rattle.std.proofs.Common.{not, refl}
use Rattle.set_algebra.proofs.{RangeLemmas.{count_toggled, members_changed, toggled_range}, SetLemmas.IsAscending-elements}
use Rattle.bit_set.specs.Changes.{Changes}
use Rattle.bit_set.proofs.set.BitSet.toggle_range.Goals as goal

pub returns-clause-members : goal.returns-clause-members
returns-clause-members g c =
    members_changed not c.args.range.start c.args.range.end _ c.self.inside.bits.values _
    (rw c.self.view_is c.in_ok-lengthen_for.ensures.same) (rw c.self.view_is c.in_ok-lengthen_for.ensures.within) c.negate_range.ensures.values

pub returns-clause-elements : goal.returns-clause-elements
returns-clause-elements g c =
    toggled_range c.args.range.start c.args.range.end _ _ (IsAscending-elements c.args.self.now.values) (IsAscending-elements c.negate_range.new.self.values) (returns-clause-members g c)

pub returns-clause-changes : goal.returns-clause-changes
unfolding Changes
returns-clause-changes g c = (returns-clause-elements g c, refl)

pub returns-clause-count : goal.returns-clause-count
returns-clause-count g c =
    count_toggled c.args.range.start c.args.range.end _ _ (IsAscending-elements c.args.self.now.values) (IsAscending-elements c.negate_range.new.self.values) (returns-clause-members g c)
