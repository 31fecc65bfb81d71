use Rattle.bit_blocks.proofs.VectorLemmas.{values_of-none}
use Rattle.bit_words.proofs.SummaryLemmas.{stored_nil}
use Rattle.bit_words.proofs.bit_vec.BitVec.remove_all.Goals as goal

pub invariant_of-self : goal.invariant_of-self
invariant_of-self g c = stored_nil _ _ _ _ _ g.met.B.BitBlock.width_law.positive c.clear.ensures.items c.clear-2.ensures.items

pub returns-clause-values : goal.returns-clause-values
returns-clause-values g c = values_of-none _ _
