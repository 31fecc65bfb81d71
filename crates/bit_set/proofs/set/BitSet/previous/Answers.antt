use Rattle.std.proofs.Common.{length, ap, arith}
use Rattle.set_algebra.{specs.Sets.elements, proofs.{EndLemmas.{finds_members_before, last_of_those, found_within_before}, SetLemmas.IsAscending-elements}}
use Rattle.bit_set.proofs.set.BitSet.previous.Goals as goal

pub returns-clause-members : goal.returns-clause-members
returns-clause-members g c = rw (← c.self.view_is) (finds_members_before c.self.inside.bits.values c.args.n _ c.last_one_before.ensures)

pub returns-clause-elements : goal.returns-clause-elements
returns-clause-elements g c = last_of_those (elements c.args.self.now.values) c.args.n _ (IsAscending-elements c.args.self.now.values) (returns-clause-members g c)

pub returns-clause-within : goal.returns-clause-within
returns-clause-within g c = found_within_before c.args.self.now.values c.args.n _
    (omega (arith, ap (λ v. length v.values) c.self.view_is, c.len.ensures.value, c.if-prove.false)) (returns-clause-members g c)
