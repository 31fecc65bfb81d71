use Rattle.std.proofs.{Common.{◌≡◌, ◌∙◌, length, max, vec_capacity, refl, sym, ap, ap₂, arith, Err}, lemmas.Result.err_from_is_err_and}
use Rattle.bit_blocks.{specs.Bits.{blocks_for, capacity_of}, proofs.VectorLemmas.{length_from_view, capacity_from_view}}
use Rattle.bit_words.{specs.Summary.shared_capacity, proofs.GrowthLemmas.{Grows-blocks, Grows-kept, Reserves-exact}}
use Rattle.bit_blocks.proofs.VectorLemmas.{capacity_of-max}
use Rattle.bit_words.proofs.bit_vec.BitVec.clone_from.Goals as goal

pub returns-in_err-copy_both-clause-grows : goal.returns-in_err-copy_both-clause-grows
returns-in_err-copy_both-clause-grows g c =
    let p = err_from_is_err_and c.from_residual.result c.from_residual.ensures.1 in
    let left = c.in_err-copy_both.ensures in
    let kept = ap₂ (shared_capacity g.B.BitBlock.width) (ap vec_capacity left.err) (ap vec_capacity left.err_summary) in
    let len = length_from_view _ _ _ _ _ c.other.view_is in
    rw (p.1, p.2) (Grows-kept _ _ c.other.inside.len _ _ _ _ _ _ _ _ _ _ _ _ g.met.B.BitBlock.width_law.positive c.self.invariant (omega arith) (omega arith) c.self.view_is (omega arith)
    (omega (arith, c.deref.ensures.len, c.other.invariant.packed.count)) (sym len) (ap (λ b. b.items) left.err) (Reserves-exact _ _ _ (Err c.in_err-copy_both.field-0.0) tt left.full kept))

pub returns-clause-grows : goal.returns-clause-grows
returns-clause-grows g c =
    let len = length_from_view _ _ _ _ _ c.other.view_is in
    Grows-blocks _ _ c.other.inside.len _ _ _ _ _ _ _ _ _ _ _ _ g.met.B.BitBlock.width_law.positive c.self.invariant (omega arith) (omega arith) c.self.view_is (omega arith)
    (omega (arith, c.deref.ensures.len, c.other.invariant.packed.count)) (sym len) refl tt (Reserves-exact _ _ _ _ c.in_ok-copy_both.ensures.exact tt tt)

pub returns-clause-exact : goal.returns-clause-exact
returns-clause-exact g c =
    let w = g.B.BitBlock.width in
    let capacity = shared_capacity w (vec_capacity c.self.inside.blocks) (vec_capacity c.self.inside.summary) in
    let count : length c.deref.result.now ≡ blocks_for w c.other.inside.len = omega (arith, c.deref.ensures.len, c.other.invariant.packed.count) in
    rw (capacity_from_view _ _ _ c.self.view_is, length_from_view _ _ _ _ _ c.other.view_is)
    (ap (capacity_of w) (c.in_ok-copy_both.ensures.exact ∙ ap (max capacity) count) ∙ capacity_of-max w capacity (blocks_for w c.other.inside.len))
