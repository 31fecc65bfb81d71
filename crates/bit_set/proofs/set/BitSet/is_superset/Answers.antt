use Rattle.bit_set.proofs.set.BitSet.is_superset.Goals as goal

pub returns-clause-returned : goal.returns-clause-returned
returns-clause-returned g c = c.is_subset.ensures.returned

pub returns-clause-members : goal.returns-clause-members
returns-clause-members g c = c.is_subset.ensures.members
