use Rattle.bit_set.proofs.CapacityLemmas.{runs-within}
use Rattle.bit_set.proofs.laws.runs_within_capacity.Goals as goal

pub returns : goal.returns
returns c = record {
  each = λ capacity old new calls enough each run. (runs-within capacity old new calls enough each run).0;
  stays = λ capacity old new calls enough each run. (runs-within capacity old new calls enough each run).1;
}
