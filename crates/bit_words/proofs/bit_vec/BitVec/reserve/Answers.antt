use Rattle.std.proofs.Common.{arith}
use Rattle.bit_blocks.proofs.VectorLemmas.{length_from_view}
use Rattle.bit_words.proofs.GrowthLemmas.{Grows-kept}
use Rattle.bit_words.proofs.bit_vec.BitVec.reserve.Goals as goal

pub overflow_add-self-inside : goal.overflow_add-self-inside
overflow_add-self-inside g c = record { fits = omega (arith, length_from_view _ _ _ _ _ c.self.view_is, c.requires) }

pub returns-clause-grows : goal.returns-clause-grows
returns-clause-grows g c =
    Grows-kept _ _ _ _ _ _ _ _ _ _ _ _ _ _ _ g.met.B.BitBlock.width_law.positive c.self.invariant (omega arith) (omega arith) c.self.view_is
    (omega (arith, c.requires)) c.block_count-count.ensures (omega (arith, length_from_view _ _ _ _ _ c.self.view_is)) c.reserve_shared.ensures.items c.reserve_shared.ensures.capacity.reserves
