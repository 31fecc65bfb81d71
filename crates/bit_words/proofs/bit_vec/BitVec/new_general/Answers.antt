use Rattle.bit_blocks.proofs.VectorLemmas.{values_of-none}
use Rattle.bit_words.proofs.SummaryLemmas.{stored_nil}
use Rattle.bit_words.proofs.bit_vec.BitVec.new_general.Goals as goal

pub invariant_of-result : goal.invariant_of-result
invariant_of-result g c = stored_nil _ _ _ _ _ g.met.B.BitBlock.width_law.positive (cc) (cc)

pub returns-clause-values : goal.returns-clause-values
returns-clause-values g c = values_of-none _ _
