use Rattle.std.proofs.Common.{◌≡◌, ◌<◌, false, sym, ◌∙◌, arith}
use Rattle.bit_set.specs.Sets.{elements, has, those_from}
use Rattle.free_slots.proofs.SlotLemmas.{all_from, first_found, none_below}
use Rattle.free_slots.proofs.Slots.lowest_free.Goals.{else-self-via-then-self+else-contains, else-self-via-else-self}
use Rattle.free_slots.proofs.Slots.lowest_free.Goals as goal

pub returns : goal.returns
returns g c =
    let values = c.self.inside.free.values in
    let s = elements values in
    let given = c.self.inside.given in
    let searched = c.self.inside.searched in
    let not_given : given < searched → has s given ≡ false =
    elim c.else-self.branch [
      | else-self-via-then-self+else-contains at ↦ λ below. sym at.contains.ensures.value ∙ at.if-contains.false
      | else-self-via-else-self at ↦ λ below. absurd (omega (arith, below, at.if-self.false))
    ] in
    let all = all_from s searched (none_below s given searched c.self.invariant.1 not_given) in
    rw (← c.self.view_is) (first_found values (those_from s searched) c.next.result (c.sets_ascend.ensures.elements values) (c.members_of_sets.ensures.elements values) all c.next.ensures.elements)
