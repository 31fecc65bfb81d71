use Rattle.std.proofs.{Common.{◌+◌, arith}, lemmas.Result.on_ok_weaker}
use Rattle.bit_blocks.proofs.{BitsLemmas.blocks_for-le, VectorLemmas.{length_from_view, capacity_from_max}}
use Rattle.bit_words.proofs.GrowthLemmas.{Grows-kept, Reserves-exact}
use Rattle.bit_words.proofs.bit_vec.BitVec.reserve_exact.Goals as goal

pub overflow_add-self-inside : goal.overflow_add-self-inside
overflow_add-self-inside g c = record { fits = omega (arith, length_from_view _ _ _ _ _ c.self.view_is, c.requires) }

pub returns-clause-grows : goal.returns-clause-grows
returns-clause-grows g c =
    let made = c.reserve_shared_exact.ensures in
    Grows-kept _ _ _ _ _ _ _ _ _ _ _ _ _ _ _ g.met.B.BitBlock.width_law.positive c.self.invariant (omega arith) (omega arith) c.self.view_is
    (omega (arith, c.requires)) c.block_count-count.ensures (omega (arith, length_from_view _ _ _ _ _ c.self.view_is)) made.items (Reserves-exact _ _ _ _ made.exact made.full made.err)

pub returns-clause-exact : goal.returns-clause-exact
returns-clause-exact g c =
    on_ok_weaker _ (capacity_from_max _ _ _ _ _ _ _ _ c.self.view_is c.block_count-count.ensures) c.reserve_shared_exact.ensures.exact

pub reserve_shared_exact-requires : goal.reserve_shared_exact-requires
reserve_shared_exact-requires g c =
    omega (arith, blocks_for-le g.B.BitBlock.width c.self.inside.len (c.self.inside.len + c.args.n) g.met.B.BitBlock.width_law.positive (omega arith))
