use Rattle.std.proofs.Common.{arith}
use Rattle.bit_blocks.proofs.UseLemmas.{packed_blocks}
use Rattle.bit_words.proofs.GrowthLemmas.{stored_within_capacity}
use Rattle.bit_words.proofs.bit_vec.BitVec.storage.Goals as goal

pub returns-clause-numbers : goal.returns-clause-numbers
returns-clause-numbers g c =
    rw (c.deref.ensures.value, ← c.self.view_is) (packed_blocks _ _ _ _ _ g.met.B.BitBlock.width_law.positive (λ x is. (g.met.B.BitBlock.number_law x is).0) c.self.invariant.packed)

pub returns-clause-fits : goal.returns-clause-fits
returns-clause-fits g c = stored_within_capacity _ _ _ _ _ _ _ _ _ g.met.B.BitBlock.width_law.positive c.self.invariant (omega arith) (omega arith) c.self.view_is
