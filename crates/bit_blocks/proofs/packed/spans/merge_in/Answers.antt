use Rattle.std.proofs.Common.{◌≡◌, ◌≢◌, ℕ, ◌≤◌, ◌+◌, ◌*◌, ◌<◌, refl, arith, map, lt_of_mul-lt-mul_right, mul-le-mul_right}
use Rattle.bit_blocks.{specs.{BlockMerges.IsMergedSpan, Places.IsPlace}, proofs.SpanLemmas.{end_within, mask_below, mask_from, ones_span, past_first, starts_within, span_more, span_of_mask}}
use Rattle.bit_blocks.proofs.packed.spans.merge_in.{Given.Over, Goals.After-merge_with_ones}
use Rattle.bit_blocks.proofs.packed.spans.merge_in.Goals as goal

pub merge_mask-requires-clause-in_bounds : goal.merge_mask-requires-clause-in_bounds
merge_mask-requires-clause-in_bounds g c = starts_within _ _ _ _ _ c.place_of-first.ensures (omega arith)

pub merge_mask-requires-2-clause-in_bounds : goal.merge_mask-requires-2-clause-in_bounds
merge_mask-requires-2-clause-in_bounds g c = starts_within _ _ _ _ _ c.place_of-first.ensures (omega arith)

pub merge_with_ones-requires-clause-forward : goal.merge_with_ones-requires-clause-forward
merge_with_ones-requires-clause-forward g c =
    past_first _ _ _ _ _ _ _ c.place_of-first.ensures c.place_of-last.ensures c.requires.some c.if-first-last.false

pub merge_with_ones-requires-clause-within : goal.merge_with_ones-requires-clause-within
merge_with_ones-requires-clause-within g c =
    let w = g.B.BitBlock.width in
    rw c.merge_mask-2.ensures.written.len (end_within w c.args.end _ _ _ c.place_of-last.ensures c.requires.within)

pub merge_mask-requires-then-high-ne0-clause-in_bounds : goal.merge_mask-requires-then-high-ne0-clause-in_bounds
merge_mask-requires-then-high-ne0-clause-in_bounds g c =
    let w = g.B.BitBlock.width in
    rw (c.merge_with_ones.ensures.written.len, c.merge_mask-2.ensures.written.len)
    (lt_of_mul-lt-mul_right w (omega arith))

pub returns-then-first-last-clause-span : goal.returns-then-first-last-clause-span
returns-then-first-last-clause-span g c =
    let w = g.B.BitBlock.width in
    let first = c.place_of-first.result.0 in
    span_of_mask g.O.Operation.merge w first c.args.start c.args.end _ _ _ g.met.B.BitBlock.width_law.positive
    c.requires.keeps (omega arith) (rw c.if-first-last.true (omega arith)) c.merge_mask.ensures.digits c.merge_mask.ensures.others
    (ones_span w first _ _ _ _ _ c.place_of-first.ensures.whole (rw c.if-first-last.true c.place_of-last.ensures.whole) c.ones_between.ensures.digits)

-- a span that ends in another block than its first has some of it before that
last_past : (w a b k p q r : ℕ) → IsPlace w a k p → IsPlace w b q r → a < b → k ≢ q → a ≤ q * w
last_past w a b k p q r first last some other =
    let more = mul-le-mul_right w (past_first w a b k p q r first last some other) in omega (arith, more, first.whole, first.within)

-- the first block, and the whole ones after it
begun : (g : Over) (c : After-merge_with_ones g)
    → IsMergedSpan g.O.Operation.merge g.B.BitBlock.width c.args.start (c.place_of-last.result.0 * g.B.BitBlock.width)
    (map g.B.BitBlock.number c.args.blocks.now) (map g.B.BitBlock.number c.merge_with_ones.new.blocks)
begun g c =
    let pos = g.met.B.BitBlock.width_law.positive in
    let m = g.O.Operation.merge in
    let w = g.B.BitBlock.width in
    let first = c.place_of-first.result.0 in
    let last = c.place_of-last.result.0 in
    let more = mul-le-mul_right w (past_first _ _ _ _ _ _ _ c.place_of-first.ensures c.place_of-last.ensures c.requires.some c.if-first-last.false) in
    let one = span_of_mask m w first c.args.start ((first + 1) * w) _ _ _ pos c.requires.keeps (omega arith)
    (omega arith) c.merge_mask-2.ensures.digits c.merge_mask-2.ensures.others
    (mask_from w c.args.start first _ _ c.place_of-first.ensures.whole c.ones_from.ensures.digits) in
    span_more m w c.args.start ((first + 1) * w) (last * w) _ _ _ _ _ (omega arith) more refl refl one c.merge_with_ones.ensures.span

pub returns-then-high-ne0-clause-span : goal.returns-then-high-ne0-clause-span
returns-then-high-ne0-clause-span g c =
    let pos = g.met.B.BitBlock.width_law.positive in
    let m = g.O.Operation.merge in
    let w = g.B.BitBlock.width in
    let last = c.place_of-last.result.0 in
    let one = span_of_mask m w last (last * w) c.args.end _ _ _ pos c.requires.keeps (omega arith)
    (omega arith) c.merge_mask-then-high-ne0.ensures.digits c.merge_mask-then-high-ne0.ensures.others
    (mask_below w c.args.end last _ _ c.place_of-last.ensures.whole c.ones_below.ensures.of_number) in
    let from = begun g (goal.at.returns-then-high-ne0-clause-span g c).After-merge_with_ones in
    span_more m w c.args.start (last * w) c.args.end _ _ _ _ _
    (last_past _ _ _ _ _ _ _ c.place_of-first.ensures c.place_of-last.ensures c.requires.some c.if-first-last.false) (omega arith) refl refl from one

pub returns-else-high-ne0-clause-span : goal.returns-else-high-ne0-clause-span
returns-else-high-ne0-clause-span g c =
    let w = g.B.BitBlock.width in
    let whole : c.args.end ≡ c.place_of-last.result.0 * w = omega arith in
    rw whole (begun g (goal.at.returns-else-high-ne0-clause-span g c).After-merge_with_ones)
