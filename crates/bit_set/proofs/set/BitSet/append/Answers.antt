use Rattle.std.proofs.{Common.{ap, refl}, lemmas.{List.length-replicate, Result.err_from_is_err_and}}
use Rattle.bit_set.{proofs.CapacityLemmas.Grows-failed, specs.Changes.Changes}
use Rattle.bit_set.proofs.set.BitSet.append.Goals as goal

pub returns-clause-changes : goal.returns-clause-changes
unfolding Changes
returns-clause-changes g c = (c.in_ok-union_with.ensures.elements, refl)

pub returns-clause-other_members : goal.returns-clause-other_members
returns-clause-other_members g c = c.make_empty.ensures.members

pub returns-clause-elements : goal.returns-clause-elements
returns-clause-elements g c = c.in_ok-union_with.ensures.elements

pub returns-clause-members : goal.returns-clause-members
returns-clause-members g c = c.in_ok-union_with.ensures.members

pub returns-clause-emptied : goal.returns-clause-emptied
returns-clause-emptied g c = c.make_empty.ensures.elements

pub returns-clause-other_size : goal.returns-clause-other_size
returns-clause-other_size g c = record { long = rw c.make_empty.ensures.whole (length-replicate _ _); capacity = ap (λ bits. bits.capacity) c.make_empty.ensures.whole }

pub returns-clause-grows : goal.returns-clause-grows
returns-clause-grows g c = c.in_ok-union_with.ensures.grows

pub returns-in_err-union_with-clause-grows : goal.returns-in_err-union_with-clause-grows
returns-in_err-union_with-clause-grows g c =
    rw (err_from_is_err_and c.from_residual.result c.from_residual.ensures.1).1 record { long = tt; grows = Grows-failed _ _ _ _ _ c.in_err-union_with.ensures.grows.grows }
