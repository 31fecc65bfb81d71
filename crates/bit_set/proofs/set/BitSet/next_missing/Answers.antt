use Rattle.set_algebra.proofs.EndLemmas.{finds_missing}
use Rattle.bit_set.proofs.set.BitSet.next_missing.Goals as goal

pub returns-clause-members : goal.returns-clause-members
returns-clause-members g c = rw (← c.self.view_is) (finds_missing c.self.inside.bits.values c.args.n _ c.first_zero_from.ensures.first)
