use Rattle.std.proofs.Common.{◌≡◌, ◌↔◌, ◌*◌, Bool, IsTrue, true, false, not, refl, sym, ap, map, arith}
use Rattle.bit_blocks.{specs.{declared.block.merge.Merge.TheVariants.Intersection, BlockMerges.MergesSpanToFalse}, proofs.BitsLemmas.blocks_for-enough}
use Rattle.bit_words.proofs.RangeQueryLemmas.{none_in_view, none_past}
use Rattle.bit_words.proofs.bit_vec.BitVec.any_in_range.Goals as goal

pub returns-then-range-end : goal.returns-then-range-end
returns-then-range-end g c =
    (λ _. none_past _ c.args.range.start c.args.range.end _ _ c.min-end.result _ _ c.self.view_is c.self.invariant.packed.tail c.min-end.ensures (omega arith), λ _. refl)

was : (b : Bool) → not b ≡ false → b ≡ true
was true _ = refl
was false known = sym known

pub range_is_zero-requires : goal.range_is_zero-requires
range_is_zero-requires g c =
    let whole = ap (λ n. n * g.B.BitBlock.width) c.self.invariant.packed.count in
    rw (c.deref.ensures.value, c.deref-2.ensures.value) (record {
      some = c.if-range-end.false;
      within = omega (arith, blocks_for-enough g.B.BitBlock.width c.self.inside.len g.met.B.BitBlock.width_law.positive, whole, c.min-end.ensures);
      each = c.self.invariant.packed.each;
      summary = c.self.invariant.summary;
    })

pub returns : goal.returns
returns g c =
    let zero : IsTrue c.range_is_zero.result ↔ MergesSpanToFalse Intersection g.B.BitBlock.width c.args.range.start c.min-end.result
    (map g.B.BitBlock.number c.self.inside.blocks.items) = rw c.deref.ensures.value at c.range_is_zero.ensures in
    let none = none_in_view _ c.args.range.start c.args.range.end _ _ c.min-end.result _ _ c.self.view_is c.self.invariant.packed.tail c.min-end.ensures in
    (λ no. none.0 (zero.0 (was _ no)), λ each. ap not (zero.1 (none.1 each)))
