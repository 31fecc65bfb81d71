use Rattle.std.proofs.Common.{◌↔◌, IsTrue, map}
use Rattle.bit_blocks.{specs.{declared.block.merge.Merge.TheVariants.Difference, BlockMerges.MergesToFalse}, proofs.CompareLemmas.subset_lists}
use Rattle.bit_words.proofs.MergedOnesLemmas.{merged_fits}
use Rattle.bit_words.proofs.bit_vec.BitVec.is_subset.Goals as goal

pub returns : goal.returns
returns g c =
    let f = g.B.BitBlock.number in
    let zero : IsTrue c.difference_by_summaries.result ↔ MergesToFalse Difference g.B.BitBlock.width (map f c.self.inside.blocks.items)
    (map f c.other.inside.blocks.items) = rw (c.deref.ensures.value, c.deref-3.ensures.value) at c.difference_by_summaries.ensures in
    let both = subset_lists _ _ _ _ _ _ _ _ _ c.self.view_is c.other.view_is c.self.invariant.packed.tail c.other.invariant.packed.tail in
    (λ yes. both.0 (zero.0 yes), λ each. zero.1 (both.1 each))

pub difference_by_summaries-requires : goal.difference_by_summaries-requires
difference_by_summaries-requires g c =
    rw (c.deref.ensures.value, c.deref-2.ensures.value, c.deref-3.ensures.value, c.deref-4.ensures.value) (record {
      each = c.self.invariant.packed.each;
      others = c.other.invariant.packed.each;
      summary = c.self.invariant.summary;
      other_summary = c.other.invariant.summary;
      fits = λ n. merged_fits Difference g.B.BitBlock.width _ _ _ _ n _ _ _ _ g.met.B.BitBlock.width_law.positive
          c.self.view_is c.other.view_is c.self.invariant.packed.tail c.other.invariant.packed.tail
          c.self.invariant.packed.fits c.other.invariant.packed.fits;
    })
