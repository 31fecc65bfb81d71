use Rattle.std.proofs.Common.{◌↔◌, IsTrue, map, arith}
use Rattle.bit_blocks.{specs.{declared.block.merge.Merge.TheVariants.Intersection, BlockMerges.MergesToFalse}, proofs.{CompareLemmas.{first_of_lists, disjoint_lists}, VectorLemmas.length_from_view}}
use Rattle.bit_words.proofs.bit_vec.BitVec.is_disjoint_from.Goals as goal

pub returns : goal.returns
returns g c =
    let f = g.B.BitBlock.number in
    let zero : IsTrue c.intersection_is_zero_counted.result ↔ MergesToFalse Intersection g.B.BitBlock.width (map f c.self.inside.blocks.items)
    (map f c.other.inside.blocks.items) = rw (c.deref.ensures.value, c.deref-2.ensures.value) at c.intersection_is_zero_counted.ensures.zero in
    let both = disjoint_lists _ _ _ _ _ _ _ _ _ c.self.view_is c.other.view_is c.self.invariant.packed.tail c.other.invariant.packed.tail in
    let steps = c.intersection_is_zero_counted.ensures.steps in
    record {
      disjoint = (λ yes. both.0 (zero.0 yes), λ each. zero.1 (both.1 each));
      stops = λ i first.
          let stop = rw (c.deref.ensures.value, c.deref-2.ensures.value) at steps.stops i in
          stop (first_of_lists _ _ _ _ _ _ _ _ _ _ c.self.view_is c.other.view_is c.self.invariant.packed.tail c.other.invariant.packed.tail i first);
      fewest = steps.fewest;
      most = rw (length_from_view _ _ _ _ _ c.self.view_is, length_from_view _ _ _ _ _ c.other.view_is) (omega (arith, steps.at_most));
      all = λ yes. let exact = steps.all yes in rw (length_from_view _ _ _ _ _ c.self.view_is, length_from_view _ _ _ _ _ c.other.view_is) (omega (arith, exact));
    }

pub intersection_is_zero_counted-requires : goal.intersection_is_zero_counted-requires
intersection_is_zero_counted-requires g c = rw (c.deref.ensures.value, c.deref-2.ensures.value) (record { each = c.self.invariant.packed.each; others = c.other.invariant.packed.each })
