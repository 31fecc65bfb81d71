use Rattle.set_algebra.proofs.SetLemmas.{elements-padded}
use Rattle.bit_set.proofs.set.BitSet.lengthen_for.Goals as goal

pub returns-clause-same : goal.returns-clause-same
returns-clause-same g c = rw c.in_ok-lengthen.ensures.ok (elements-padded c.args.self.now.values _)
