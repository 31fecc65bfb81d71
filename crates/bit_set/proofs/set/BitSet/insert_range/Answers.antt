use Rattle.std.proofs.Common.{refl, true, ap, arith}
use Rattle.set_algebra.proofs.{RangeLemmas.{count_inserted, inserted_range, members_changed, on_ok}, SetLemmas.IsAscending-elements}
use Rattle.bit_set.{proofs.ChangeLemmas.changes_filled, specs.Changes.Changes}
use Rattle.set_algebra.specs.Sets.{elements}
use Rattle.bit_set.proofs.set.BitSet.insert_range.Goals as goal

-- ---- past the list

pub returns-then-range-clause-elements : goal.returns-then-range-clause-elements
returns-then-range-clause-elements g c =
    on_ok c.insert_past.result (inserted_range c.args.range.start c.args.range.end _ _ (IsAscending-elements c.args.self.now.values) (IsAscending-elements c.insert_past.new.self.values))
    c.insert_past.ensures.members

pub returns-then-range-clause-count : goal.returns-then-range-clause-count
returns-then-range-clause-count g c =
    on_ok c.insert_past.result (count_inserted c.args.range.start c.args.range.end _ _ (IsAscending-elements c.args.self.now.values) (IsAscending-elements c.insert_past.new.self.values))
    c.insert_past.ensures.members

pub returns-then-range-clause-changes : goal.returns-then-range-clause-changes
returns-then-range-clause-changes g c =
    changes_filled c.args.range.start c.args.range.end c.insert_past.result c.args.self.now c.insert_past.new.self (returns-then-range-clause-elements g c)
    c.insert_past.ensures.grows.err

-- ---- within it

pub returns-clause-members : goal.returns-clause-members
returns-clause-members g c =
    members_changed (λ _. true) c.args.range.start c.args.range.end _ c.self.inside.bits.values _
    (ap (λ bits. elements bits.values) c.self.view_is) (λ some. grind (arith, c.else-range-len.either, c.len.ensures.value, some)) c.fill_range.ensures.values

pub returns-clause-elements : goal.returns-clause-elements
returns-clause-elements g c =
    inserted_range c.args.range.start c.args.range.end _ _ (IsAscending-elements c.args.self.now.values) (IsAscending-elements c.fill_range.new.self.values) (returns-clause-members g c)

pub returns-clause-changes : goal.returns-clause-changes
unfolding Changes
returns-clause-changes g c = (returns-clause-elements g c, refl)

pub returns-clause-count : goal.returns-clause-count
returns-clause-count g c =
    count_inserted c.args.range.start c.args.range.end _ _ (IsAscending-elements c.args.self.now.values) (IsAscending-elements c.fill_range.new.self.values) (returns-clause-members g c)
