use Rattle.std.proofs.Common.{◌<◌, length, sym, ap, subst, arith}
use Rattle.bit_set.specs.Sets.{elements}
use Rattle.free_slots.specs.{Runs.Happens, Runs.Event.GiveBack, Slots.{HasNoneBut, SlotTable}}
use Rattle.free_slots.proofs.SlotLemmas.{given_back, none_but_given, none_but_less, put_again, table_of}
use Rattle.free_slots.proofs.{Slots.give_back.Given.Over, Slots.give_back.Goals.After-unwrap}
use Rattle.free_slots.proofs.Slots.give_back.Goals as goal

happens : (g : Over) (c : After-unwrap g) → Happens c.args.self.now (GiveBack c.args.slot c.unwrap.result) (table_of c.insert.new.self.values)
happens g c =
    let values = c.self.inside.free.values in
    let slot = c.args.slot in
    let s = elements values in
    let ascends = c.sets_ascend.ensures.elements values in
    let inside : slot < length values = omega (arith, c.len.ensures.value, c.if-slot-len.true, ap (λ (t : SlotTable). t.len) c.self.view_is) in
    let again = put_again s slot ascends c.sets_are_their_members.ensures.set (c.sets_ascend.ensures.put s slot ascends) (c.members_of_sets.ensures.put s slot) in
    let ok = c.unwrap.ensures in
    subst (λ (t : SlotTable). Happens t (GiveBack slot c.unwrap.result) (table_of c.insert.new.self.values)) c.self.view_is
    (given_back values c.insert.new.self.values slot c.unwrap.result inside (rw ok at c.insert.ensures.returned) (rw ok at c.insert.ensures.elements) (rw ok at c.insert.ensures.grows.long) again)

pub returns-then-slot-len-clause-happens : goal.returns-then-slot-len-clause-happens
returns-then-slot-len-clause-happens g c = happens g c

pub returns-then-slot-len-clause-unchanged : goal.returns-then-slot-len-clause-unchanged
returns-then-slot-len-clause-unchanged g c = λ free. (subst (λ b. Happens c.args.self.now (GiveBack c.args.slot b) (table_of c.insert.new.self.values)) free (happens g c)).1

pub invariant_of-self : goal.invariant_of-self
invariant_of-self g c =
    let s = elements c.self.inside.free.values in
    let then = c.after_giving.result in
    (c.self.invariant.0, none_but_less s c.self.inside.given c.self.inside.searched c.args.slot then.0 then.1 c.contains-is_free.result c.self.invariant.1 c.contains-is_free.ensures.value c.after_giving.ensures)

pub invariant_of-self-else-slot-len : goal.invariant_of-self-else-slot-len
invariant_of-self-else-slot-len g c =
    let s = elements c.self.inside.free.values in
    let then = c.after_giving.result in
    (c.self.invariant.0, none_but_less s c.self.inside.given c.self.inside.searched c.args.slot then.0 then.1 c.contains-is_free.result c.self.invariant.1 c.contains-is_free.ensures.value c.after_giving.ensures)

pub invariant_of-self-then-slot-len : goal.invariant_of-self-then-slot-len
invariant_of-self-then-slot-len g c =
    let values = c.self.inside.free.values in
    let s = elements values in
    let slot = c.args.slot in
    let then = c.after_giving.result in
    let ok = c.unwrap.ensures in
    let inside : slot < length values = omega (arith, c.len.ensures.value, c.if-slot-len.true, ap (λ (t : SlotTable). t.len) c.self.view_is) in
    let long = rw ok at c.insert.ensures.grows.long in
    let added = rw ok at c.insert.ensures.elements in (
      omega (arith, long, inside, c.insert.ensures.grows.grows.capacity, c.self.invariant.0),
      subst (λ t. HasNoneBut t then.0 then.1) (sym added)
          (none_but_given s c.self.inside.given c.self.inside.searched slot then.0 then.1 c.contains-is_free.result
          (c.members_of_sets.ensures.put s slot) c.self.invariant.1 c.contains-is_free.ensures.value c.after_giving.ensures),
    )
