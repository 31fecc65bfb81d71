use Rattle.std.proofs.{Common.{◌∙◌, ap, length, not, rules}}
use Rattle.set_algebra.{proofs.MemberLemmas.counted_within, specs.{Order.same_sets, Sets.elements}}
use Rattle.bit_set.proofs.FusedLemmas.{elements-replaced, length-replaced, members-replaced}
use Rattle.bit_set.{proofs.ReportedLemmas.told_of_lengthened, specs.Changes.{Changes, Outcome.Returned}}
use Rattle.bit_set.proofs.set.BitSet.copy_difference.Goals as goal

pub returns-clause-elements : goal.returns-clause-elements
returns-clause-elements g c =
    rw (c.become_difference-changed.ensures.values, c.other.view_is, c.except.view_is)
    (elements-replaced _ c.args.other.now.values c.args.except.now.values)

pub returns-clause-members : goal.returns-clause-members
returns-clause-members g c = members-replaced (elements c.args.other.now.values) (elements c.args.except.now.values) _ (returns-clause-elements g c)

pub returns-clause-grows : goal.returns-clause-grows
returns-clause-grows g c =
    let values = c.args.self.now.values in
    let others = c.args.other.now.values in
    let except = c.args.except.now.values in
    record {
      long = rw (c.become_difference-changed.ensures.values, c.self.view_is, c.in_ok-lengthen.ensures.ok, c.len.ensures.value, c.other.view_is, c.except.view_is)
          (length-replaced values others except);
      grows = search rules;
    }

pub returns-clause-changed : goal.returns-clause-changed
returns-clause-changed g c =
    told_of_lengthened c.args.self.now.values c.self.inside.bits.values _ c.len.result (length c.args.other.now.values) _ (ap (λ bits. bits.values) c.self.view_is ∙ c.in_ok-lengthen.ensures.ok)
    (c.len.ensures.value ∙ ap (λ bits. length bits.values) c.other.view_is) (returns-clause-grows g c).long c.become_difference-changed.ensures.kept

pub returns-clause-counted : goal.returns-clause-counted
returns-clause-counted g c = counted_within c.become_difference-changed.new.self c.len-2.ensures.fits

pub returns-clause-changes : goal.returns-clause-changes
unfolding Changes
returns-clause-changes g c =
    let made = returns-clause-elements g c in
    (made, ap (λ changed. Returned changed) ((returns-clause-changed g c).changed ∙ ap (λ s. not (same_sets (elements c.args.self.now.values) s)) made))
