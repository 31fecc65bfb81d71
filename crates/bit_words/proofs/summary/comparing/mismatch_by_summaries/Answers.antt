use Rattle.std.proofs.Common.{◌*◌, ◌≤◌, ◌∙◌, false, get_or, length, map, sym, arith, ⊎_elim, mul-le-mul_right}
use Rattle.std.proofs.lemmas.{Bool.cases_lt, List.{get_or_past, length-map}}
use Rattle.bit_words.proofs.ComparedLemmas.{from_none, summary_enough}
use Rattle.bit_words.proofs.summary.comparing.mismatch_by_summaries.Goals as goal

pub loop-q-preserved : goal.loop-q-preserved
loop-q-preserved g c = (
  omega (arith, c.loop-q.invariant.0, c.loop-q-test.true, c.min-end.ensures, c.saturating_mul.ensures),
  from_none c.mismatch_in_part-found.result _ _ (sym c.is_some-in-loop-q.ensures ∙ c.if-is_some-2.false) c.mismatch_in_part-found.ensures,
)

pub returns : goal.returns
returns g c = λ k.
    let w = g.B.BitBlock.width in
    let number = g.B.BitBlock.number in
    let is_block = g.B.BitBlock.is_block in
    let pos = g.met.B.BitBlock.width_law.positive in
    let long = c.is_short.ensures.long c.if-is_short.false in
    let own = summary_enough w number is_block c.args.blocks.now c.args.summary.now pos (c.requires.summary.long (omega (arith, long, c.min.ensures))) in
    let also = summary_enough w number is_block c.args.others.now c.args.other_summary.now pos (c.requires.other_summary.long (omega (arith, long, c.min.ensures))) in
    let first : length c.args.summary.now * w ≤ c.loop-q.q * w = mul-le-mul_right w (omega (arith, c.loop-q-test.false, c.max-most.ensures)) in
    let second : length c.args.other_summary.now * w ≤ c.loop-q.q * w = mul-le-mul_right w (omega (arith, c.loop-q-test.false, c.max-most.ensures)) in
    ⊎_elim
    (c.loop-q.invariant.1 k)
    (λ (past : c.loop-q.q * w ≤ k).
    get_or_past (map number c.args.blocks.now) k 0 (rw length-map (omega (arith, past, first, own)))
    ∙ sym (get_or_past (map number c.args.others.now) k 0 (rw length-map (omega (arith, past, second, also)))))
    (cases_lt k (c.loop-q.q * w))
