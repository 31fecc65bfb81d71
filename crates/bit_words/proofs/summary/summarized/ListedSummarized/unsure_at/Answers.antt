use Rattle.std.proofs.Common.{◌+◌, ◌*◌, ◌==◌, not, ap}
use Rattle.bit_blocks.proofs.{CompareLemmas.zero_from_digits, VectorLemmas.numbers_below}
use Rattle.bit_words.proofs.summary.summarized.ListedSummarized.unsure_at.Goals as goal

pub returns-clause-sure : goal.returns-clause-sure
returns-clause-sure g c = λ p index none all.
    let small = numbers_below g.B.BitBlock.width g.B.BitBlock.number g.B.BitBlock.is_block c.args.self.blocks.now
    (λ x is. (g.met.B.BitBlock.number_law x is).0) c.requires.summaries.0 (c.args.q * g.B.BitBlock.width + p) in
    ap (λ n. not (n == 0)) (zero_from_digits g.B.BitBlock.width _ small all)
