use Rattle.bit_set.proofs.ChainLemmas.{runs_by_each}
use Rattle.bit_set.proofs.set.BitSet.union.Goals as goal

pub returns-clause-runs : goal.returns-clause-runs
returns-clause-runs g c = runs_by_each
