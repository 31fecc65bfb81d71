use Rattle.std.proofs.Common.{ℕ, Bool, false, List, sym, ap, ap₂, ◌∙◌, arith}
use Rattle.bit_blocks.specs.Bits.{Bits}
use Rattle.set_algebra.{specs.Sets.elements, proofs.MemberLemmas.{count_without, updates_without}}
use Rattle.bit_set.specs.Changes.{Changes, Outcome.Returned}
use Rattle.set_algebra.proofs.{SetLemmas.{IsAscending-elements, elements-set_false, without_absent}, ValueLemmas.{has-past, has-read, written_again}}
use Rattle.bit_set.proofs.set.BitSet.remove.Goals as goal

pub returns-then-value-len-clause-returned : goal.returns-then-value-len-clause-returned
returns-then-value-len-clause-returned g c = rw (← c.self.view_is) (sym (has-past c.self.inside.bits.values c.args.value (omega arith)))

pub returns-then-value-len-clause-elements : goal.returns-then-value-len-clause-elements
returns-then-value-len-clause-elements g c =
    let values = c.self.inside.bits.values in
    rw (← c.self.view_is) (sym (without_absent (elements values) c.args.value (IsAscending-elements values) (has-past values c.args.value (omega arith))))

pub returns-clause-returned : goal.returns-clause-returned
returns-clause-returned g c = rw (← c.self.view_is) (has-read c.self.inside.bits.values _ _ c.replace.ensures.was)

pub returns-clause-elements : goal.returns-clause-elements
returns-clause-elements g c = rw (c.replace.ensures.values, ← c.self.view_is) (elements-set_false c.self.inside.bits.values c.args.value (omega arith))

pub returns-then-value-len-clause-changes : goal.returns-then-value-len-clause-changes
unfolding Changes
returns-then-value-len-clause-changes g c = (returns-then-value-len-clause-elements g c, ap Returned (returns-then-value-len-clause-returned g c))

pub returns-clause-changes : goal.returns-clause-changes
unfolding Changes
returns-clause-changes g c = (returns-clause-elements g c, ap Returned (returns-clause-returned g c))

pub returns-then-value-len-clause-members : goal.returns-then-value-len-clause-members
returns-then-value-len-clause-members g c = updates_without (elements c.args.self.now.values) c.args.value (returns-then-value-len-clause-elements g c)

pub returns-clause-members : goal.returns-clause-members
returns-clause-members g c = updates_without (elements c.args.self.now.values) c.args.value (returns-clause-elements g c)

pub returns-clause-count : goal.returns-clause-count
returns-clause-count g c = count_without c.args.self.now.values (elements c.replace.new.self.values) c.args.value c.replace.result (returns-clause-elements g c) (returns-clause-returned g c)

pub returns-clause-unchanged : goal.returns-clause-unchanged
returns-clause-unchanged g c none =
    let read = rw none at c.replace.ensures.was in
    let bits : List Bool → ℕ → Bits = λ values capacity. record { values = values; capacity = capacity } in
    ap₂ bits (c.replace.ensures.values ∙ written_again c.self.inside.bits.values c.args.value false read) c.replace.ensures.capacity ∙ c.self.view_is
