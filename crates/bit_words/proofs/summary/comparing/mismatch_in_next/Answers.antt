use Rattle.std.proofs.{Common.{◌+◌, ◌*◌, ◌≤◌, ◌∙◌, All, ap, length, map, subst, sym, ⊎_elim, arith, mul-le-mul_right}, lemmas.{Bool.cases_lt, List.Elements.All-drop}}
use Rattle.bit_blocks.{specs.Digits.is_one, proofs.StorageLemmas.value_at-index}
use Rattle.bit_words.proofs.ComparedLemmas.{zero_chunks}
use Rattle.bit_words.proofs.summary.comparing.mismatch_in_next.Goals as goal

pub returns-then-not-is_nonzero-clause-found : goal.returns-then-not-is_nonzero-clause-found
returns-then-not-is_nonzero-clause-found g c = λ k below.
    let w = g.B.BitBlock.width in
    let q = c.args.q in
    let n = c.zeros_before.result in
    let end : q + n ≤ length c.args.summary.now = omega (arith, c.zeros_before.ensures.within, c.split_at.ensures.back_len) in
    ⊎_elim
    (c.requires.before k)
    (λ reached. c.requires.zeros k reached (omega (arith, below, mul-le-mul_right w end))
    (zero_chunks w q n g.B.BitBlock.number c.args.summary.now _ g.met.B.BitBlock.width_law.positive c.split_at.ensures.back c.zeros_before.ensures.zeros k reached below))
    (cases_lt k (q * w))

pub mismatch_of_used-requires-clause-in_both : goal.mismatch_of_used-requires-clause-in_both
mismatch_of_used-requires-clause-in_both g c = λ p within one.
    let w = g.B.BitBlock.width in
    c.requires.in_both (c.args.q * w + p) (omega arith)
    (value_at-index w (map g.B.BitBlock.number c.args.summary.now) c.args.q p within ∙ ap (λ m. is_one m p) (sym c.block_at-used.ensures.of_number) ∙ one)

pub mismatch_of_used-requires-clause-same : goal.mismatch_of_used-requires-clause-same
mismatch_of_used-requires-clause-same g c = λ p within none.
    let w = g.B.BitBlock.width in
    let upto : (c.args.q + 1) * w ≤ length c.args.summary.now * w = mul-le-mul_right w (omega (arith, c.requires.in_summary)) in
    c.requires.zeros (c.args.q * w + p) (omega arith) (omega (arith, upto, within))
    (value_at-index w (map g.B.BitBlock.number c.args.summary.now) c.args.q p within ∙ ap (λ m. is_one m p) (sym c.block_at-used.ensures.of_number) ∙ none)

pub chunks_before_few-count-requires-clause-each : goal.chunks_before_few-count-requires-clause-each
chunks_before_few-count-requires-clause-each g c = subst (All g.B.BitBlock.is_block) (sym c.split_at.ensures.back) (All-drop g.B.BitBlock.is_block c.args.q c.args.summary.now c.requires.summary)
