use Rattle.std.proofs.Common.{◌≡◌, ◌+◌, ◌*◌, refl, arith, mul-le-mul_right}
use Rattle.bit_blocks.proofs.SpanLemmas.{mask_whole, span_more, span_of_mask}
use Rattle.bit_blocks.proofs.packed.spans.merge_with_ones.Goals as goal

pub loop-k-preserved : goal.loop-k-preserved
loop-k-preserved g c =
    let m = g.O.Operation.merge in
    let w = g.B.BitBlock.width in
    let k = c.loop-k.k in
    let one = span_of_mask m w k (k * w) ((k + 1) * w) _ _ _ g.met.B.BitBlock.width_law.positive c.requires.keeps
    (omega arith) (omega arith) c.merge_mask.ensures.digits c.merge_mask.ensures.others
    (mask_whole w k _ c.all_ones-ones.ensures.of_number) in
    let from = mul-le-mul_right w c.loop-k.auto.k in
    record {
      span = span_more m w (c.args.first * w) (k * w) ((k + 1) * w) _ _ _ _ _ from (omega arith) refl refl c.loop-k.invariant.span one;
      written = record { each = c.merge_mask.ensures.written.each; len = omega arith };
    }

pub loop-k-init : goal.loop-k-init
loop-k-init g c = record {
  span = record { inside = λ i reached below. absurd (omega arith); before = λ i below. refl; after = λ i past. refl };
  written = record { each = c.requires.each; len = refl };
}

pub merge_mask-requires-clause-in_bounds : goal.merge_mask-requires-clause-in_bounds
merge_mask-requires-clause-in_bounds g c = omega arith

pub returns-clause-span : goal.returns-clause-span
returns-clause-span g c = let end : c.loop-k.k ≡ c.args.end = omega arith in rw end at c.loop-k.invariant.span
