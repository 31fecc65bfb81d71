use Rattle.std.proofs.{lemmas.List.Elements.{All-same, All-take, All-drop}, Common.mul-le-mul_right}
use Rattle.std.proofs.Common.{◌≡◌, ◌+◌, ◌-◌, ◌*◌, ◌∙◌, refl, map, arith, lt_of_mul-lt-mul_right}
use Rattle.std.specs.List.{count_by, range_with_len}
use Rattle.bit_blocks.{specs.Storage.{ones_in, value_at}, proofs.VectorLemmas.numbers_below}
use Rattle.bit_blocks.proofs.SpanCountLemmas.{count-le, count-parts, ones_of_blocks, ones_of_mask}
use Rattle.bit_blocks.proofs.SpanLemmas.{end_within, mask_below, mask_from, ones_span, past_first, starts_within}
use Rattle.bit_blocks.proofs.packed.span_queries.ones_in_span.{Given.Over, Goals.{After-blocks_between, After-ones_of, After-ones_under-2}}
use Rattle.bit_blocks.proofs.packed.span_queries.ones_in_span.Goals as goal

pub ones_under-requires-clause-in_bounds : goal.ones_under-requires-clause-in_bounds
ones_under-requires-clause-in_bounds g c = starts_within _ _ _ _ _ c.place_of-first.ensures (omega arith)

pub ones_under-begun-requires-clause-in_bounds : goal.ones_under-begun-requires-clause-in_bounds
ones_under-begun-requires-clause-in_bounds g c = starts_within _ _ _ _ _ c.place_of-first.ensures (omega arith)

pub blocks_between-requires-clause-forward : goal.blocks_between-requires-clause-forward
blocks_between-requires-clause-forward g c =
    past_first _ _ _ _ _ _ _ c.place_of-first.ensures c.place_of-last.ensures c.requires.some c.if-first-last.false

pub blocks_between-requires-clause-within : goal.blocks_between-requires-clause-within
blocks_between-requires-clause-within g c =
    let w = g.B.BitBlock.width in
    end_within w c.args.end _ _ _ c.place_of-last.ensures c.requires.within

pub ones_of-requires-clause-each : goal.ones_of-requires-clause-each
ones_of-requires-clause-each g c =
    let is_block = g.B.BitBlock.is_block in
    All-same is_block _ _ c.blocks_between.ensures (All-take is_block _ _ (All-drop is_block (c.place_of-first.result.0 + 1) c.args.blocks.now c.requires.each))

pub ones_under-requires-2-clause-in_bounds : goal.ones_under-requires-2-clause-in_bounds
ones_under-requires-2-clause-in_bounds g c =
    let w = g.B.BitBlock.width in
    lt_of_mul-lt-mul_right w (omega arith)

pub returns-then-first-last : goal.returns-then-first-last
returns-then-first-last g c =
    let w = g.B.BitBlock.width in
    let ms = map g.B.BitBlock.number c.args.blocks.now in
    let first = c.place_of-first.result.0 in
    c.ones_under.ensures
    ∙ ones_of_mask w first c.args.start c.args.end _ _ ms
    (numbers_below w _ _ c.args.blocks.now (λ x is. (g.met.B.BitBlock.number_law x is).0) c.requires.each first)
    (omega arith) (omega arith) (rw c.if-first-last.true (omega arith)) refl
    (ones_span w first _ _ _ _ _ c.place_of-first.ensures.whole (rw c.if-first-last.true c.place_of-last.ensures.whole) c.ones_between.ensures.digits)

-- the ones of the whole blocks between them
whole : (g : Over) (c : After-blocks_between g)
    → ones_in g.B.BitBlock.number c.blocks_between.result.now ≡ count_by (value_at g.B.BitBlock.width
    (map g.B.BitBlock.number c.args.blocks.now))
    (range_with_len ((c.place_of-first.result.0 + 1) * g.B.BitBlock.width)
    (c.place_of-last.result.0 * g.B.BitBlock.width - (c.place_of-first.result.0 + 1) * g.B.BitBlock.width))
whole g c =
    let w = g.B.BitBlock.width in
    let pos = g.met.B.BitBlock.width_law.positive in
    let last = c.place_of-last.result.0 in
    ones_of_blocks g.B.BitBlock.number w (c.place_of-first.result.0 + 1) last c.args.blocks.now _
    (numbers_below w _ _ c.args.blocks.now (λ x is. (g.met.B.BitBlock.number_law x is).0) c.requires.each)
    (past_first _ _ _ _ _ _ _ c.place_of-first.ensures c.place_of-last.ensures c.requires.some c.if-first-last.false)
    (end_within w c.args.end last _ _ c.place_of-last.ensures c.requires.within) c.blocks_between.ensures

-- those up to the last block
begun : (g : Over) (c : After-ones_of g) → ones_in g.B.BitBlock.number
    c.blocks_between.result.now ≡ count_by (value_at g.B.BitBlock.width (map g.B.BitBlock.number c.args.blocks.now))
    (range_with_len ((c.place_of-first.result.0 + 1) * g.B.BitBlock.width)
    (c.place_of-last.result.0 * g.B.BitBlock.width - (c.place_of-first.result.0 + 1) * g.B.BitBlock.width))
    → c.ones_under-begun.result + c.ones_of.result ≡ count_by (value_at g.B.BitBlock.width
    (map g.B.BitBlock.number c.args.blocks.now))
    (range_with_len c.args.start (c.place_of-last.result.0 * g.B.BitBlock.width - c.args.start))
begun g c between =
    let w = g.B.BitBlock.width in
    let ms = map g.B.BitBlock.number c.args.blocks.now in
    let first = c.place_of-first.result.0 in
    let more = mul-le-mul_right w (past_first _ _ _ _ _ _ _ c.place_of-first.ensures c.place_of-last.ensures c.requires.some c.if-first-last.false) in
    let one = ones_of_mask w first c.args.start ((first + 1) * w) _ _ ms
    (numbers_below w _ _ c.args.blocks.now (λ x is. (g.met.B.BitBlock.number_law x is).0) c.requires.each first)
    (omega arith) (omega arith) (omega arith) refl
    (mask_from w c.args.start first _ _ c.place_of-first.ensures.whole c.ones_from.ensures.digits) in
    omega (arith, c.ones_under-begun.ensures ∙ one, c.ones_of.ensures ∙ between, count-parts (value_at w ms) c.args.start ((first + 1) * w) (c.place_of-last.result.0 * w) (omega arith) more)

pub ones_of-requires-clause-fits : goal.ones_of-requires-clause-fits
ones_of-requires-clause-fits g c =
    let w = g.B.BitBlock.width in
    let from = (c.place_of-first.result.0 + 1) * w in
    omega (arith, whole g (goal.at.ones_of-requires-clause-fits g c).After-blocks_between, count-le (value_at w (map g.B.BitBlock.number c.args.blocks.now)) from (c.place_of-last.result.0 * w - from))

pub overflow_add-ones : goal.overflow_add-ones
overflow_add-ones g c =
    let w = g.B.BitBlock.width in
    omega (arith, begun g (goal.at.overflow_add-ones g c).After-ones_of (whole g (goal.at.overflow_add-ones g c).After-blocks_between), count-le (value_at w (map g.B.BitBlock.number c.args.blocks.now)) c.args.start (c.place_of-last.result.0 * w - c.args.start))

pub returns-then-high-eq0 : goal.returns-then-high-eq0
returns-then-high-eq0 g c =
    let w = g.B.BitBlock.width in
    let whole_end : c.place_of-last.result.0 * w ≡ c.args.end = omega (arith, c.if-high-eq0.true) in
    rw whole_end at (begun g (goal.at.returns-then-high-eq0 g c).After-ones_of (whole g (goal.at.returns-then-high-eq0 g c).After-blocks_between))

-- the last block ends the span
ended : (g : Over) (c : After-ones_under-2 g)
    → c.ones_under-2.result ≡ count_by (value_at g.B.BitBlock.width (map g.B.BitBlock.number c.args.blocks.now))
    (range_with_len (c.place_of-last.result.0 * g.B.BitBlock.width)
    (c.args.end - c.place_of-last.result.0 * g.B.BitBlock.width))
ended g c =
    let w = g.B.BitBlock.width in
    let last = c.place_of-last.result.0 in
    c.ones_under-2.ensures
    ∙ ones_of_mask w last (last * w) c.args.end _ _ _
    (numbers_below w _ _ c.args.blocks.now (λ x is. (g.met.B.BitBlock.number_law x is).0) c.requires.each last) (omega arith)
    (omega arith) (omega arith) refl
    (mask_below w c.args.end last _ _ c.place_of-last.ensures.whole c.ones_below.ensures.of_number)

-- the span in two parts
joined : (g : Over) (c : After-ones_under-2 g)
    → c.ones_under-begun.result + c.ones_of.result ≡ count_by (value_at g.B.BitBlock.width
    (map g.B.BitBlock.number c.args.blocks.now))
    (range_with_len c.args.start (c.place_of-last.result.0 * g.B.BitBlock.width - c.args.start))
    → c.ones_under-begun.result + c.ones_of.result + c.ones_under-2.result ≡ count_by (value_at g.B.BitBlock.width
    (map g.B.BitBlock.number c.args.blocks.now)) (range_with_len c.args.start (c.args.end - c.args.start))
joined g c before =
    let w = g.B.BitBlock.width in
    let first = c.place_of-first.result.0 in
    let last = c.place_of-last.result.0 in
    let more = mul-le-mul_right w (past_first _ _ _ _ _ _ _ c.place_of-first.ensures c.place_of-last.ensures c.requires.some c.if-first-last.false) in
    omega (arith, before, ended g c, count-parts (value_at w (map g.B.BitBlock.number c.args.blocks.now)) c.args.start (last * w) c.args.end (omega (arith, more)) (omega arith))

pub overflow_add-result : goal.overflow_add-result
overflow_add-result g c =
    let at = goal.at.overflow_add-result g c in
    omega (arith, joined g at.After-ones_under-2 (begun g at.After-ones_of (whole g at.After-blocks_between)), count-le (value_at g.B.BitBlock.width (map g.B.BitBlock.number c.args.blocks.now)) c.args.start (c.args.end - c.args.start))

pub returns : goal.returns
returns g c =
    let at = goal.at.returns g c in
    joined g at.After-ones_under-2 (begun g at.After-ones_of (whole g at.After-blocks_between))
