use Rattle.std.proofs.Common.{◌∙◌, ap, arith}
use Rattle.bit_blocks.specs.Digits.{is_one}
use Rattle.bit_words.proofs.SummaryLemmas.{stored_digits}
use Rattle.bit_words.proofs.summary.queries.summary_at.Goals as goal

pub returns-then-q-summary-clause-digits : goal.returns-then-q-summary-clause-digits
returns-then-q-summary-clause-digits g c = λ j index.
    ap (λ n. is_one n j) c.block_at.ensures.of_number
    ∙ stored_digits g.B.BitBlock.width g.B.BitBlock.number _ _ _ c.args.q c.requires.summary (omega arith) j index
