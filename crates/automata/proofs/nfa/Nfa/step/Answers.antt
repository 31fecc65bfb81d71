use Rattle.automata.proofs.nfa.Nfa.step.Goals as goal

pub returns : goal.returns
returns g c = rw (← c.self.view_is) (rw c.as_slice.ensures.value at c.step.ensures.image)
