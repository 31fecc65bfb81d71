use Rattle.std.proofs.Common.{arith}
use Rattle.bit_blocks.proofs.VectorLemmas.{is_capacity_of_blocks}
use Rattle.bit_words.proofs.{GrowthLemmas.stored_within_capacity, SummaryLemmas.stored_within}
use Rattle.bit_words.proofs.bit_vec.BitVec.capacity.Goals as goal

pub returns-clause-fits : goal.returns-clause-fits
returns-clause-fits g c = stored_within_capacity _ _ _ _ _ _ _ _ _ g.met.B.BitBlock.width_law.positive c.self.invariant (omega arith) (omega arith) c.self.view_is

pub returns-clause-whole : goal.returns-clause-whole
returns-clause-whole g c = is_capacity_of_blocks _ _ _ _ _ _ _ c.self.invariant.packed
    (stored_within _ _ _ _ _ _ _ _ g.met.B.BitBlock.width_law.positive c.self.invariant (omega arith) (omega arith)) c.self.view_is
