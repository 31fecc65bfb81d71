use Rattle.bit_set.proofs.ChainLemmas.{runs_of_walk}
use Rattle.bit_set.proofs.set.BitSet.iter_from.Goals as goal

pub returns-clause-runs : goal.returns-clause-runs
returns-clause-runs g c = runs_of_walk
