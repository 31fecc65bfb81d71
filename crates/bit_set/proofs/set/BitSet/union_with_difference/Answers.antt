use Rattle.std.proofs.{Common.{◌∙◌, ◌-◌, ap, length, not, take, rules}}
use Rattle.bit_blocks.specs.{declared.block.merge.Merge.TheVariants.{Difference, Union}, Merges.merge_of}
use Rattle.set_algebra.proofs.{AlgebraLemmas.elements-lengthened, MemberLemmas.counted_within}
use Rattle.bit_set.proofs.ReportedLemmas.{elements-except, length-lengthened-cut, members-except, told_of_lengthened}
use Rattle.bit_set.{proofs.ReportedLemmas.{union_count, union_kept}, specs.Changes.{Changes, Outcome.Returned}}
use Rattle.set_algebra.proofs.SetLemmas.{IsAscending-elements}
use Rattle.set_algebra.specs.{Order.same_sets, Sets.{difference, elements, union}}
use Rattle.bit_set.proofs.set.BitSet.union_with_difference.Goals as goal

pub returns-clause-elements : goal.returns-clause-elements
returns-clause-elements g c =
    let values = c.args.self.now.values in
    let others = c.args.other.now.values in
    let except = c.args.except.now.values in
    rw (c.unite_difference-changed.ensures.values, c.self.view_is, c.in_ok-lengthen.ensures.ok, c.other.view_is, c.except.view_is)
    (elements-lengthened Union values (merge_of Difference others (take (length others) except)) (c.len.result - length values) ∙ ap (union (elements values)) (elements-except others except))

pub returns-clause-members : goal.returns-clause-members
returns-clause-members g c = members-except (elements c.args.self.now.values) (elements c.args.other.now.values) (elements c.args.except.now.values) _ (returns-clause-elements g c)

pub returns-clause-grows : goal.returns-clause-grows
returns-clause-grows g c =
    let values = c.args.self.now.values in
    let others = c.args.other.now.values in
    let except = c.args.except.now.values in
    record {
      long = rw (c.unite_difference-changed.ensures.values, c.self.view_is, c.in_ok-lengthen.ensures.ok, c.len.ensures.value, c.other.view_is, c.except.view_is)
          (length-lengthened-cut Difference values others except);
      grows = search rules;
    }

pub returns-clause-changed : goal.returns-clause-changed
returns-clause-changed g c =
    told_of_lengthened c.args.self.now.values c.self.inside.bits.values _ c.len.result (length c.args.other.now.values) _ (ap (λ bits. bits.values) c.self.view_is ∙ c.in_ok-lengthen.ensures.ok)
    (c.len.ensures.value ∙ ap (λ bits. length bits.values) c.other.view_is) (returns-clause-grows g c).long c.unite_difference-changed.ensures.kept

pub returns-clause-count : goal.returns-clause-count
returns-clause-count g c =
    let s = elements c.args.self.now.values in
    let t = difference (elements c.args.other.now.values) (elements c.args.except.now.values) in
    let tells = (returns-clause-changed g c).changed ∙ ap (λ u. not (same_sets s u)) (returns-clause-elements g c) ∙ ap not (union_kept s t (IsAscending-elements c.args.self.now.values)) in
    rw (tells, returns-clause-elements g c) (union_count s t (IsAscending-elements c.args.self.now.values))

pub returns-clause-counted : goal.returns-clause-counted
returns-clause-counted g c = counted_within c.unite_difference-changed.new.self c.len-2.ensures.fits

pub returns-clause-changes : goal.returns-clause-changes
unfolding Changes
returns-clause-changes g c =
    let made = returns-clause-elements g c in
    (made, ap (λ changed. Returned changed) ((returns-clause-changed g c).changed ∙ ap (λ s. not (same_sets (elements c.args.self.now.values) s)) made))
