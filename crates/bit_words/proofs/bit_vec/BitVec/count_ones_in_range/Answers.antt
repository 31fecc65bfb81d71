use Rattle.std.{proofs.Common.{◌≡◌, ◌-◌, ◌*◌, sym, ap, ◌∙◌, arith, map}, specs.List.{count_by, range_with_len}}
use Rattle.bit_blocks.{specs.Storage.value_at, proofs.BitsLemmas.blocks_for-enough}
use Rattle.bit_words.proofs.RangeQueryLemmas.{trues_in_view}
use Rattle.bit_words.proofs.bit_vec.BitVec.count_ones_in_range.Goals as goal

pub returns-then-range-end : goal.returns-then-range-end
returns-then-range-end g c =
    let none : c.min-end.result - c.args.range.start ≡ 0 = omega arith in
    ap (λ n. count_by (value_at g.B.BitBlock.width (map g.B.BitBlock.number c.self.inside.blocks.items)) (range_with_len c.args.range.start n)) (sym none)
    ∙ trues_in_view _ c.args.range.start c.args.range.end _ _ c.min-end.result _ _ c.self.view_is c.min-end.ensures

pub ones_in_range-requires : goal.ones_in_range-requires
ones_in_range-requires g c =
    let whole = ap (λ n. n * g.B.BitBlock.width) c.self.invariant.packed.count in
    rw (c.deref.ensures.value, c.deref-2.ensures.value) (record {
      some = c.if-range-end.false;
      within = omega (arith, blocks_for-enough g.B.BitBlock.width c.self.inside.len g.met.B.BitBlock.width_law.positive, whole, c.min-end.ensures);
      each = c.self.invariant.packed.each;
      summary = c.self.invariant.summary;
    })

pub returns : goal.returns
returns g c =
    rw c.deref.ensures.value at c.ones_in_range.ensures ∙ trues_in_view _ c.args.range.start c.args.range.end _ _ c.min-end.result _ _ c.self.view_is c.min-end.ensures
