use Rattle.bit_blocks.proofs.BitsLemmas.{blocks_for-enough}
use Rattle.bit_words.proofs.RangeQueryLemmas.{all_in_view, not_all_past}
use Rattle.std.proofs.Common.{◌↔◌, ◌*◌, IsTrue, map, refl, ap, arith}
use Rattle.bit_blocks.specs.{declared.block.merge.Merge.TheVariants.Difference, BlockMerges.MergesSpanToFalse}
use Rattle.bit_words.proofs.bit_vec.BitVec.all_in_range.Goals as goal

pub returns-then-range-self : goal.returns-then-range-self
returns-then-range-self g c =
    not_all_past _ c.args.range.start c.args.range.end _ _ _ _ c.self.view_is c.self.invariant.packed.tail (omega arith) (omega arith)

pub span_merges_to_false-requires : goal.span_merges_to_false-requires
span_merges_to_false-requires g c =
    let whole = ap (λ n. n * g.B.BitBlock.width) c.self.invariant.packed.count in
    rw c.deref.ensures.value (record {
      some = c.if-range.false;
      within = omega (arith, blocks_for-enough g.B.BitBlock.width c.self.inside.len g.met.B.BitBlock.width_law.positive, whole, c.if-range-self.false);
      each = c.self.invariant.packed.each;
      nothing = refl;
    })

pub returns : goal.returns
returns g c =
    let zero : IsTrue c.span_merges_to_false.result ↔ MergesSpanToFalse Difference g.B.BitBlock.width c.args.range.start c.args.range.end
    (map g.B.BitBlock.number c.self.inside.blocks.items) = rw c.deref.ensures.value at c.span_merges_to_false.ensures in
    let all = all_in_view _ c.args.range.start c.args.range.end _ _ _ _ c.self.view_is c.self.invariant.packed.tail in
    (λ yes. all.0 (zero.0 yes), λ each. zero.1 (all.1 each))
