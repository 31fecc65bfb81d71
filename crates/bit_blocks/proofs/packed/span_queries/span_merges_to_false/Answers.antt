use Rattle.std.proofs.{Common.{◌≡◌, ◌+◌, ◌*◌, ◌↔◌, ◌∙◌, IsTrue, true, refl, sym, map, arith, lt_of_mul-lt-mul_right, mul-le-mul_right}, lemmas.Bool.{eq-eqb, false≢true}}
use Rattle.bit_blocks.{specs.BlockMerges.MergesSpanToFalse, proofs.SpanLemmas.{end_within, false-parts, false-within, false_of_mask, mask_below, mask_from, ones_span, past_first, starts_within}}
use Rattle.bit_blocks.proofs.packed.span_queries.span_merges_to_false.{Given.Over, Goals.{After-masks_to_zero-2, After-ones_merge_to_zero}}
use Rattle.bit_blocks.proofs.packed.span_queries.span_merges_to_false.Goals as goal

pub masks_to_zero-requires-clause-in_bounds : goal.masks_to_zero-requires-clause-in_bounds
masks_to_zero-requires-clause-in_bounds g c = starts_within _ _ _ _ _ c.place_of-first.ensures (omega arith)

pub masks_to_zero-requires-2-clause-in_bounds : goal.masks_to_zero-requires-2-clause-in_bounds
masks_to_zero-requires-2-clause-in_bounds g c = starts_within _ _ _ _ _ c.place_of-first.ensures (omega arith)

pub ones_merge_to_zero-requires-clause-forward : goal.ones_merge_to_zero-requires-clause-forward
ones_merge_to_zero-requires-clause-forward g c =
    past_first _ _ _ _ _ _ _ c.place_of-first.ensures c.place_of-last.ensures c.requires.some c.if-first-last.false

pub ones_merge_to_zero-requires-clause-within : goal.ones_merge_to_zero-requires-clause-within
ones_merge_to_zero-requires-clause-within g c =
    let w = g.B.BitBlock.width in
    end_within w c.args.end _ _ _ c.place_of-last.ensures c.requires.within

pub masks_to_zero-requires-else-high-eq0-clause-in_bounds : goal.masks_to_zero-requires-else-high-eq0-clause-in_bounds
masks_to_zero-requires-else-high-eq0-clause-in_bounds g c =
    let w = g.B.BitBlock.width in
    lt_of_mul-lt-mul_right w (omega arith)

pub returns-then-first-last : goal.returns-then-first-last
returns-then-first-last g c =
    let w = g.B.BitBlock.width in
    let first = c.place_of-first.result.0 in
    let mask = false_of_mask g.O.Operation.merge w first c.args.start c.args.end _
    (map g.B.BitBlock.number c.args.blocks.now) g.met.B.BitBlock.width_law.positive c.requires.nothing (omega arith)
    (rw c.if-first-last.true (omega arith))
    (ones_span w first _ _ _ _ _ c.place_of-first.ensures.whole (rw c.if-first-last.true c.place_of-last.ensures.whole) c.ones_between.ensures.digits) in
    (λ yes. mask.0 (c.masks_to_zero.ensures.0 yes), λ all. c.masks_to_zero.ensures.1 (mask.1 all))

-- the first block, where it is not the last
front : (g : Over) (c : After-masks_to_zero-2 g)
    → IsTrue c.masks_to_zero-2.result ↔ MergesSpanToFalse g.O.Operation.merge g.B.BitBlock.width c.args.start
    ((c.place_of-first.result.0 + 1) * g.B.BitBlock.width) (map g.B.BitBlock.number c.args.blocks.now)
front g c =
    let w = g.B.BitBlock.width in
    let first = c.place_of-first.result.0 in
    let mask = false_of_mask g.O.Operation.merge w first c.args.start ((first + 1) * w) _
    (map g.B.BitBlock.number c.args.blocks.now) g.met.B.BitBlock.width_law.positive c.requires.nothing (omega arith)
    (omega arith) (mask_from w c.args.start first _ _ c.place_of-first.ensures.whole c.ones_from.ensures.digits) in
    (λ yes. mask.0 (c.masks_to_zero-2.ensures.0 yes), λ all. c.masks_to_zero-2.ensures.1 (mask.1 all))

pub returns-then-not-masks_to_zero : goal.returns-then-not-masks_to_zero
returns-then-not-masks_to_zero g c =
    let w = g.B.BitBlock.width in
    let first = c.place_of-first.result.0 in
    let last = c.place_of-last.result.0 in
    let more = mul-le-mul_right w (past_first _ _ _ _ _ _ _ c.place_of-first.ensures c.place_of-last.ensures c.requires.some c.if-first-last.false) in
    let tells = front g (goal.at.returns-then-not-masks_to_zero g c).After-masks_to_zero-2 in (
      λ yes. absurd (false≢true yes),
      λ all. absurd (false≢true (sym c.if-not-masks_to_zero.true
          ∙ tells.1 (false-within g.O.Operation.merge w c.args.start c.args.end c.args.start ((first + 1) * w) _ (omega arith)
          (omega (arith, more)) all))),
    )

pub returns-then-not-ones_merge_to_zero : goal.returns-then-not-ones_merge_to_zero
returns-then-not-ones_merge_to_zero g c =
    let w = g.B.BitBlock.width in
    let first = c.place_of-first.result.0 in
    let last = c.place_of-last.result.0 in (
      λ yes. absurd (false≢true yes),
      λ all. absurd (false≢true (sym c.if-not-ones_merge_to_zero.true
          ∙ c.ones_merge_to_zero.ensures.1 (false-within g.O.Operation.merge w c.args.start c.args.end ((first + 1) * w)
          (last * w) _ (omega arith) (omega arith) all))),
    )

-- up to the last block
begun : (g : Over) (c : After-ones_merge_to_zero g)
    → MergesSpanToFalse g.O.Operation.merge g.B.BitBlock.width c.args.start
    ((c.place_of-first.result.0 + 1) * g.B.BitBlock.width) (map g.B.BitBlock.number c.args.blocks.now)
    → c.ones_merge_to_zero.result ≡ true → MergesSpanToFalse g.O.Operation.merge g.B.BitBlock.width c.args.start
    (c.place_of-last.result.0 * g.B.BitBlock.width) (map g.B.BitBlock.number c.args.blocks.now)
begun g c before holds =
    let w = g.B.BitBlock.width in
    false-parts g.O.Operation.merge w c.args.start ((c.place_of-first.result.0 + 1) * w) (c.place_of-last.result.0 * w) _ _ _ refl refl before (c.ones_merge_to_zero.ensures.0 holds)

pub returns-then-high-eq0 : goal.returns-then-high-eq0
returns-then-high-eq0 g c =
    let at = goal.at.returns-then-high-eq0 g c in
    let w = g.B.BitBlock.width in
    let whole : c.place_of-last.result.0 * w ≡ c.args.end = omega (arith, c.if-high-eq0.true) in
    let all = begun g at.After-ones_merge_to_zero ((front g at.After-masks_to_zero-2).0 c.if-not-masks_to_zero.false) c.if-not-ones_merge_to_zero.false in
    (λ _. rw whole at all, λ _. eq-eqb c.place_of-last.result.1 0 c.if-high-eq0.true)

pub returns-else-high-eq0 : goal.returns-else-high-eq0
returns-else-high-eq0 g c =
    let pos = g.met.B.BitBlock.width_law.positive in
    let at = goal.at.returns-else-high-eq0 g c in
    let m = g.O.Operation.merge in
    let w = g.B.BitBlock.width in
    let last = c.place_of-last.result.0 in
    let ms = map g.B.BitBlock.number c.args.blocks.now in
    let more = mul-le-mul_right w (past_first _ _ _ _ _ _ _ c.place_of-first.ensures c.place_of-last.ensures c.requires.some c.if-first-last.false) in
    let before = begun g at.After-ones_merge_to_zero ((front g at.After-masks_to_zero-2).0 c.if-not-masks_to_zero.false) c.if-not-ones_merge_to_zero.false in
    let mask = false_of_mask m w last (last * w) c.args.end _ ms pos c.requires.nothing (omega arith) (omega arith)
    (mask_below w c.args.end last _ _ c.place_of-last.ensures.whole c.ones_below.ensures.of_number) in (
      λ yes. false-parts m w c.args.start (last * w) c.args.end _ _ ms refl refl before (mask.0 (c.masks_to_zero-else-high-eq0.ensures.0 yes)),
      λ all. c.masks_to_zero-else-high-eq0.ensures.1 (mask.1 (false-within m w c.args.start c.args.end (last * w) c.args.end ms (omega (arith, more)) (omega arith) all)),
    )
