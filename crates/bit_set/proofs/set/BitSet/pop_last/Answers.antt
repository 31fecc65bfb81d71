use Rattle.bit_set.proofs.ChangeLemmas.{changes_popped_last}
use Rattle.set_algebra.{specs.Sets.elements, proofs.{EndLemmas.takes_last, SetLemmas.IsAscending-elements}}
use Rattle.bit_set.proofs.set.BitSet.pop_last.Goals as goal

pub returns-in_err-value-clause-elements : goal.returns-in_err-value-clause-elements
returns-in_err-value-clause-elements g c = rw c.from_residual.ensures (c.in_err-value.ensures.elements, c.in_err-value.ensures.elements)

pub returns-clause-elements : goal.returns-clause-elements
returns-clause-elements g c =
    let old = c.args.self.now.values in
    (takes_last (elements old) (elements c.remove-was.new.self.values) c.in_ok-value.value (IsAscending-elements old) c.in_ok-value.ensures.members c.remove-was.ensures.elements).0

pub returns-clause-members : goal.returns-clause-members
returns-clause-members g c =
    let old = c.args.self.now.values in
    (takes_last (elements old) (elements c.remove-was.new.self.values) c.in_ok-value.value (IsAscending-elements old) c.in_ok-value.ensures.members c.remove-was.ensures.elements).1

pub returns-clause-changes : goal.returns-clause-changes
returns-clause-changes g c = changes_popped_last c.args.self.now.values c.remove-was.new.self.values c.in_ok-value.value (returns-clause-elements g c)
