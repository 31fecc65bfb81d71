use Rattle.bit_set.proofs.ChainLemmas.{runs_of_walk_back}
use Rattle.bit_set.proofs.walk.Iter.rev.Goals as goal

pub returns-clause-gives : goal.returns-clause-gives
returns-clause-gives g c = runs_of_walk_back
