use Rattle.std.proofs.Common.{false, get_or, map, sym}
use Rattle.bit_blocks.{specs.Storage.value_at, proofs.{CompareLemmas.value_in_view, SearchLemmas.{finds_from_same, value_fits}}}
use Rattle.bit_words.proofs.bit_vec.BitVec.first_one_from.Goals as goal

pub first_one_by_summary-requires : goal.first_one_by_summary-requires
first_one_by_summary-requires g c = record {
  each = rw c.deref.ensures.value c.self.invariant.packed.each;
  summary = rw (c.deref.ensures.value, c.deref-2.ensures.value) c.self.invariant.summary;
  fits = rw c.deref.ensures.value (value_fits _ _ _ c.self.invariant.packed.tail c.self.invariant.packed.fits);
}

pub returns : goal.returns
returns g c =
    let ms = map g.B.BitBlock.number c.self.inside.blocks.items in
    finds_from_same (value_at g.B.BitBlock.width ms) (λ i. get_or c.args.self.now.values i false) _ _ (λ i. sym (value_in_view _ _ _ ms _ c.self.view_is c.self.invariant.packed.tail i))
    (rw c.deref.ensures.value at c.first_one_by_summary.ensures)
