use Rattle.std.proofs.{Common.{◌∙◌, ◌-◌, ap, length, not, take, rules}}
use Rattle.bit_blocks.specs.{declared.block.merge.Merge.TheVariants.{Intersection, Union}, Merges.merge_of}
use Rattle.set_algebra.proofs.{AlgebraLemmas.elements-lengthened, MemberLemmas.counted_within}
use Rattle.bit_set.{proofs.FusedLemmas.{elements-common, members-common}, specs.Changes.{Changes, Outcome.Returned}}
use Rattle.bit_set.proofs.ReportedLemmas.{length-lengthened-cut, told_of_lengthened, union_count, union_kept}
use Rattle.set_algebra.proofs.SetLemmas.{IsAscending-elements}
use Rattle.set_algebra.specs.{Order.same_sets, Sets.{elements, intersection, union}}
use Rattle.bit_set.proofs.set.BitSet.union_with_intersection.Goals as goal

pub returns-clause-elements : goal.returns-clause-elements
returns-clause-elements g c =
    let values = c.args.self.now.values in
    let others = c.args.other.now.values in
    let also = c.args.also.now.values in
    rw (c.unite_intersection-changed.ensures.values, c.self.view_is, c.in_ok-lengthen.ensures.ok, c.other.view_is, c.also.view_is)
    (elements-lengthened Union values (merge_of Intersection others (take (length others) also)) (c.len.result - length values) ∙ ap (union (elements values)) (elements-common others also))

pub returns-clause-members : goal.returns-clause-members
returns-clause-members g c = members-common (elements c.args.self.now.values) (elements c.args.other.now.values) (elements c.args.also.now.values) _ (returns-clause-elements g c)

pub returns-clause-grows : goal.returns-clause-grows
returns-clause-grows g c =
    let values = c.args.self.now.values in
    let others = c.args.other.now.values in
    let also = c.args.also.now.values in
    record {
      long = rw (c.unite_intersection-changed.ensures.values, c.self.view_is, c.in_ok-lengthen.ensures.ok, c.len.ensures.value, c.other.view_is, c.also.view_is)
          (length-lengthened-cut Intersection values others also);
      grows = search rules;
    }

pub returns-clause-changed : goal.returns-clause-changed
returns-clause-changed g c =
    told_of_lengthened c.args.self.now.values c.self.inside.bits.values _ c.len.result (length c.args.other.now.values) _ (ap (λ bits. bits.values) c.self.view_is ∙ c.in_ok-lengthen.ensures.ok)
    (c.len.ensures.value ∙ ap (λ bits. length bits.values) c.other.view_is) (returns-clause-grows g c).long c.unite_intersection-changed.ensures.kept

pub returns-clause-were_in : goal.returns-clause-were_in
returns-clause-were_in g c =
    let s = elements c.args.self.now.values in
    let t = intersection (elements c.args.other.now.values) (elements c.args.also.now.values) in
    (returns-clause-changed g c).changed ∙ ap (λ u. not (same_sets s u)) (returns-clause-elements g c) ∙ ap not (union_kept s t (IsAscending-elements c.args.self.now.values))

pub returns-clause-count : goal.returns-clause-count
returns-clause-count g c =
    let s = elements c.args.self.now.values in
    let t = intersection (elements c.args.other.now.values) (elements c.args.also.now.values) in
    rw (returns-clause-were_in g c, returns-clause-elements g c) (union_count s t (IsAscending-elements c.args.self.now.values))

pub returns-clause-counted : goal.returns-clause-counted
returns-clause-counted g c = counted_within c.unite_intersection-changed.new.self c.len-2.ensures.fits

pub returns-clause-changes : goal.returns-clause-changes
unfolding Changes
returns-clause-changes g c =
    let made = returns-clause-elements g c in
    (made, ap (λ changed. Returned changed) ((returns-clause-changed g c).changed ∙ ap (λ s. not (same_sets (elements c.args.self.now.values) s)) made))
