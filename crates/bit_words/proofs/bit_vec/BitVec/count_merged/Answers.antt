use Rattle.std.proofs.Common.{◌≡◌, ℕ, ◌+◌, ◌*◌, ◌≤◌, ◌∙◌, length, map, arith, mul-le-mul_right}
use Rattle.std.{specs.List.count_by}
use Rattle.bit_blocks.{specs.{Bits.blocks_for, Merges.merge_of}, proofs.{BitsLemmas.blocks_for-enough}}
use Rattle.bit_words.{specs.MergedOnes.merged_ones, proofs.{MergedOnesLemmas.{merged_fits, merged_trues}, bit_vec.BitVec.count_merged.Given.Over}}
use Rattle.bit_words.proofs.bit_vec.BitVec.count_merged.Goals.{After-other}
use Rattle.bit_words.proofs.bit_vec.BitVec.count_merged.Goals as goal

-- the ones of so many blocks, where both lists have no more
trues : (g : Over) (c : After-other g) (n : ℕ) → length c.self.inside.blocks.items ≤ n → length c.other.inside.blocks.items ≤ n
    → merged_ones c.args.merge g.B.BitBlock.width (map g.B.BitBlock.number c.self.inside.blocks.items)
    (map g.B.BitBlock.number c.other.inside.blocks.items) 0 n ≡ count_by (λ value. value)
    (merge_of c.args.merge c.args.self.now.values c.args.other.now.values)
trues g c n long also =
    let w = g.B.BitBlock.width in
    let pos = g.met.B.BitBlock.width_law.positive in
    let own : blocks_for w c.self.inside.len * w ≤ n * w = mul-le-mul_right w (omega (arith, c.self.invariant.packed.count)) in
    let others : blocks_for w c.other.inside.len * w ≤ n * w = mul-le-mul_right w (omega (arith, c.other.invariant.packed.count)) in
    merged_trues c.args.merge w _ _ _ _ n _ _ _ _ c.self.view_is c.other.view_is c.self.invariant.packed.tail c.other.invariant.packed.tail
    (omega (arith, own, others, blocks_for-enough w c.self.inside.len pos, blocks_for-enough w c.other.inside.len pos))

pub ones_of_merge-requires-clause-fits : goal.ones_of_merge-requires-clause-fits
ones_of_merge-requires-clause-fits g c = λ n.
    rw (c.deref.ensures.value, c.deref-3.ensures.value)
    (merged_fits c.args.merge g.B.BitBlock.width _ _ _ _ n _ _ _ _ g.met.B.BitBlock.width_law.positive c.self.view_is
    c.other.view_is c.self.invariant.packed.tail c.other.invariant.packed.tail c.self.invariant.packed.fits
    c.other.invariant.packed.fits)

pub returns : goal.returns
returns g c =
    let end = length c.self.inside.blocks.items + length c.other.inside.blocks.items in
    let all = trues g (goal.at.returns g c).After-other end (omega arith) (omega arith) in
    let counted = rw (c.deref.ensures.value, c.deref-3.ensures.value) at c.ones_of_merge.ensures in
    counted end (omega arith) (omega arith) ∙ all
