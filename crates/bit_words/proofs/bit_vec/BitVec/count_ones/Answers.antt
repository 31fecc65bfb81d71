use Rattle.std.{proofs.{Common.{◌≡◌, map, ◌∙◌, arith}, lemmas.List.Sums.count_by-le-length}, specs.List.count_by}
use Rattle.bit_blocks.{specs.Storage.{ones_in, values_of}, proofs.{CountLemmas.ones_in-values, StorageLemmas.length-values_of, UseLemmas.packed_blocks}}
use Rattle.bit_words.proofs.{SummaryLemmas.{stored_each, stored_enough}, bit_vec.BitVec.count_ones.Given.Over}
use Rattle.bit_words.proofs.bit_vec.BitVec.count_ones.Goals.{After-self}
use Rattle.bit_words.proofs.bit_vec.BitVec.count_ones.Goals as goal

-- the ones of the blocks are the true values
ones : (g : Over) (c : After-self g)
    → ones_in g.B.BitBlock.number c.self.inside.blocks.items ≡ count_by (λ value. value) (values_of g.B.BitBlock.width (map g.B.BitBlock.number c.self.inside.blocks.items) c.self.inside.len)
ones g c =
    let pos = g.met.B.BitBlock.width_law.positive in
    ones_in-values g.B.BitBlock.number _ _ _ pos (packed_blocks _ _ _ _ _ pos (λ x is. (g.met.B.BitBlock.number_law x is).0) c.self.invariant.packed)

pub returns : goal.returns
returns g c = rw (← c.self.view_is) (rw c.deref.ensures.value at c.ones_by_summary.ensures ∙ ones g (goal.at.returns g c).After-self)

pub ones_by_summary-requires : goal.ones_by_summary-requires
ones_by_summary-requires g c =
    let w = g.B.BitBlock.width in
    let values = values_of w (map g.B.BitBlock.number c.self.inside.blocks.items) c.self.inside.len in
    let counted = ones g (goal.at.ones_by_summary-requires g c).After-self in
    rw (c.deref.ensures.value, c.deref-2.ensures.value) (record {
      each = c.self.invariant.packed.each;
      summary = stored_each _ _ _ _ _ c.self.invariant.summary;
      enough = stored_enough _ _ _ _ _ g.met.B.BitBlock.width_law.positive c.self.invariant.summary;
      digit = λ long k _. (c.self.invariant.summary.long long).digit k;
      fits = omega (arith, counted, count_by-le-length (λ value. value) values, length-values_of w (map g.B.BitBlock.number c.self.inside.blocks.items) c.self.inside.len, c.self.invariant.packed.fits);
    })
