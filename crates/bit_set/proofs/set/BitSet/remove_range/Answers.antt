use Rattle.std.proofs.Common.{refl}
use Rattle.set_algebra.proofs.{RangeLemmas.{count_removed, members_cleared, removed_range}, SetLemmas.IsAscending-elements}
use Rattle.bit_set.specs.Changes.{Changes}
use Rattle.bit_set.proofs.set.BitSet.remove_range.Goals as goal

pub returns-clause-members : goal.returns-clause-members
returns-clause-members g c =
    rw (← c.self.view_is) (members_cleared c.args.range.start c.args.range.end c.min-end.result c.self.inside.bits.values c.fill_range.new.self.values
    (rw c.len.ensures.value at c.min-end.ensures) c.fill_range.ensures.values)

pub returns-clause-elements : goal.returns-clause-elements
returns-clause-elements g c =
    removed_range c.args.range.start c.args.range.end _ _ (IsAscending-elements c.args.self.now.values) (IsAscending-elements c.fill_range.new.self.values) (returns-clause-members g c)

pub returns-clause-changes : goal.returns-clause-changes
unfolding Changes
returns-clause-changes g c = (returns-clause-elements g c, refl)

pub returns-clause-count : goal.returns-clause-count
returns-clause-count g c =
    count_removed c.args.range.start c.args.range.end _ _ (IsAscending-elements c.args.self.now.values) (IsAscending-elements c.fill_range.new.self.values) (returns-clause-members g c)
