use Rattle.bit_blocks.{proofs.UseLemmas.packed_blocks}
use Rattle.bit_words.proofs.bit_vec.BitVec.first_mismatching_block.Goals as goal

pub returns : goal.returns
returns g c =
    let pos = g.met.B.BitBlock.width_law.positive in
    let own = packed_blocks _ _ _ _ _ pos (λ x is. (g.met.B.BitBlock.number_law x is).0) c.self.invariant.packed in
    let others = packed_blocks _ _ _ _ _ pos (λ x is. (g.met.B.BitBlock.number_law x is).0) c.other.invariant.packed in
    rw (← c.self.view_is, ← c.other.view_is, ← own, ← others)
    (rw (c.deref.ensures.value, c.deref-3.ensures.value) at c.mismatch_by_summaries.ensures)
