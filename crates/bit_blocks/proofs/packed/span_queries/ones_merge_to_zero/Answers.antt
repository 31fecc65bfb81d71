use Rattle.std.proofs.Common.{◌≡◌, ◌≤◌, ◌+◌, ◌*◌, ◌∙◌, map, refl, sym, arith, mul-le-mul_right}
use Rattle.std.proofs.lemmas.Bool.{false≢true}
use Rattle.bit_blocks.proofs.SpanLemmas.{false-parts, false-within, false_of_mask, mask_whole}
use Rattle.bit_blocks.proofs.packed.span_queries.ones_merge_to_zero.Goals as goal

pub loop-k-init : goal.loop-k-init
loop-k-init g c = record { value = λ i reached below. absurd (omega arith) }

pub loop-k-preserved : goal.loop-k-preserved
loop-k-preserved g c =
    let m = g.O.Operation.merge in
    let w = g.B.BitBlock.width in
    let k = c.loop-k.k in
    let ms = map g.B.BitBlock.number c.args.blocks.now in
    let block = false_of_mask m w k (k * w) ((k + 1) * w) _ ms g.met.B.BitBlock.width_law.positive c.requires.nothing
    (omega arith) (omega arith) (mask_whole w k _ c.all_ones-ones.ensures.of_number) in
    false-parts m w (c.args.first * w) (k * w) ((k + 1) * w) _ _ ms refl refl c.loop-k.invariant (block.0 (c.masks_to_zero.ensures.0 c.if-not-masks_to_zero.false))

pub returns-then-not-masks_to_zero : goal.returns-then-not-masks_to_zero
returns-then-not-masks_to_zero g c =
    let m = g.O.Operation.merge in
    let w = g.B.BitBlock.width in
    let k = c.loop-k.k in
    let ms = map g.B.BitBlock.number c.args.blocks.now in
    let block = false_of_mask m w k (k * w) ((k + 1) * w) _ ms g.met.B.BitBlock.width_law.positive c.requires.nothing
    (omega arith) (omega arith) (mask_whole w k _ c.all_ones-ones.ensures.of_number) in
    let from = mul-le-mul_right w c.loop-k.auto.k in
    let next : k + 1 ≤ c.args.end = omega arith in
    let to = mul-le-mul_right w next in (
      λ yes. absurd (false≢true yes),
      λ all. absurd (false≢true (sym c.if-not-masks_to_zero.true ∙ c.masks_to_zero.ensures.1 (block.1 (false-within m w (c.args.first * w) (c.args.end * w) (k * w) ((k + 1) * w) ms from to all)))),
    )

pub returns : goal.returns
returns g c =
    let end : c.loop-k.k ≡ c.args.end = omega arith in
    let all = rw end at c.loop-k.invariant in
    (λ _. all, λ _. refl)
