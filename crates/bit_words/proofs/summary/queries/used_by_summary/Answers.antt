use Rattle.std.proofs.{Common.{◌≡◌, ◌*◌, ◌^◌, ◌-◌, min, length, length-take, sym, ap, ◌∙◌, ⊎_elim, arith}, lemmas.Bool.cases_lt}
use Rattle.bit_blocks.proofs.ZeroLemmas.{front_read}
use Rattle.bit_words.proofs.SummaryZeros.{zero_past_chunks}
use Rattle.bit_words.proofs.summary.queries.used_by_summary.Goals as goal

pub returns-clause-zeros : goal.returns-clause-zeros
returns-clause-zeros g c = λ k past.
    let w = g.B.BitBlock.width in
    let number = g.B.BitBlock.number in
    let is_block = g.B.BitBlock.is_block in
    let xs = c.args.blocks.now in
    let end = c.min-end.result in
    let long = c.is_short.ensures.long c.if-is_short.false in
    let at : end ≡ min (min (c.used_blocks-chunks.result * w) (2 ^ 64 - 1)) (length xs) =
    c.min-end.ensures ∙ ap (λ n. min n (length xs)) (c.saturating_mul.ensures ∙ ap (λ n. min (c.used_blocks-chunks.result * n) (2 ^ 64 - 1)) c.bits.ensures) in
    ⊎_elim
    (λ within. sym (front_read w number is_block xs end k within) ∙ c.used_blocks-2.ensures.zeros k past)
    (λ outside. zero_past_chunks w number is_block xs c.args.summary.now c.used_blocks-chunks.result end k
    g.met.B.BitBlock.width_law.positive (c.requires.summary.long long) c.used_blocks-chunks.ensures.zeros at outside)
    (cases_lt k end)

pub returns-clause-last : goal.returns-clause-last
returns-clause-last g c = λ some none.
    let xs = c.args.blocks.now in
    let end = c.min-end.result in
    let most = length-take end xs in
    c.used_blocks-2.ensures.last some
    (front_read g.B.BitBlock.width g.B.BitBlock.number g.B.BitBlock.is_block xs end (c.used_blocks-2.result - 1) (omega (arith, some, most, c.used_blocks-2.ensures.within)) ∙ none)
