use Rattle.bit_set_c.proofs.stretches.bit_set_first_gap.Goals as goal

pub returns-in-None-clause-members : goal.returns-in-None-clause-members
returns-in-None-clause-members c = rw c.get.ensures.value at c.in-None.ensures.members
