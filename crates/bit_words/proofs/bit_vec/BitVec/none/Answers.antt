use Rattle.bit_blocks.proofs.VectorLemmas.{all_false_from_zero, zero_from_all_false}
use Rattle.bit_words.proofs.bit_vec.BitVec.none.Goals as goal

pub returns : goal.returns
returns g c =
    let w = g.B.BitBlock.width in
    let f = g.B.BitBlock.number in
    let xs = c.self.inside.blocks.items in
    let zeros = rw c.deref.ensures.value at c.are_zero_by_summary.ensures in
    rw (← c.self.view_is) (
      λ none. all_false_from_zero w c.self.inside.len f xs (zeros.0 none),
      λ falses. zeros.1
          (zero_from_all_false w c.self.inside.len f g.B.BitBlock.is_block xs g.met.B.BitBlock.width_law.positive (λ x is. (g.met.B.BitBlock.number_law x is).0) c.self.invariant.packed falses),
    )
