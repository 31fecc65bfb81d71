use Rattle.std.proofs.Common.{◌≡◌, [], refl, sym, subst, arith}
use Rattle.bit_set.specs.Sets.{elements, those_from, without}
use Rattle.free_slots.specs.Slots.{HasNoneBut}
use Rattle.free_slots.proofs.SlotLemmas.{least_from, left, lowest_from, none_but_taken, none_free_from}
use Rattle.free_slots.proofs.Slots.take_at_or_above.Goals as goal

pub returns-clause-lowest : goal.returns-clause-lowest
returns-clause-lowest g c =
    let values = c.self.inside.free.values in
    let s = elements values in
    let from = c.args.slot in
    let at = c.in_ok-taken.ensures.elements.1 in
    rw (← c.self.view_is) (lowest_from values from c.in_ok-taken.taken _ (c.members_of_sets.ensures.those_from s from)
    (c.sets_ascend.ensures.those_from s from (c.sets_ascend.ensures.elements values))
    (c.members_of_sets.ensures.elements values) at)

pub returns-clause-happens : goal.returns-clause-happens
returns-clause-happens g c =
    let values = c.self.inside.free.values in
    let s = elements values in
    let from = c.args.slot in
    let taken = c.in_ok-taken.taken in
    let at = c.in_ok-taken.ensures.elements.1 in
    rw (← c.self.view_is) (
      lowest_from values from taken _ (c.members_of_sets.ensures.those_from s from)
          (c.sets_ascend.ensures.those_from s from (c.sets_ascend.ensures.elements values))
          (c.members_of_sets.ensures.elements values) at,
      left values c.remove.new.self.values (without s taken) c.remove.ensures.size.long c.remove.ensures.elements,
    )

pub returns-in_err-taken-clause-happens : goal.returns-in_err-taken-clause-happens
returns-in_err-taken-clause-happens g c =
    let s = elements c.self.inside.free.values in
    let from = c.args.slot in
    let none : those_from s from ≡ [] = c.in_err-taken.ensures.elements in
    rw (c.from_residual.ensures, ← c.self.view_is) (λ n above. none_free_from s from (c.members_of_sets.ensures.those_from s from) none n above, refl)

pub invariant_of-self : goal.invariant_of-self
invariant_of-self g c =
    let values = c.self.inside.free.values in
    let s = elements values in
    let taken = c.in_ok-taken.taken in
    let given = c.self.inside.given in
    let from = c.args.slot in
    let at = c.in_ok-taken.ensures.elements.1 in
    let least = least_from s from (c.members_of_sets.ensures.those_from s from) taken _ (c.sets_ascend.ensures.those_from s from (c.sets_ascend.ensures.elements values)) at in (
      omega (arith, c.remove.ensures.size.long, c.remove.ensures.size.capacity, c.self.invariant.0),
      subst (λ t. HasNoneBut t given c.after_taking-self-inside.result) (sym c.remove.ensures.elements)
          (none_but_taken s given c.self.inside.searched from c.after_taking-self-inside.result taken
          (c.members_of_sets.ensures.without s taken) c.self.invariant.1 least.2 c.after_taking-self-inside.ensures),
    )
