use Rattle.std.proofs.Common.{◌+◌, ◌*◌, ◌∙◌, map, sym}
use Rattle.bit_words.proofs.SummaryMergeLemmas.{unused_from_apart}
use Rattle.bit_words.proofs.summary.summarized.OutsideSummarized.unsure_at.Goals as goal

pub returns-clause-sure : goal.returns-clause-sure
returns-clause-sure g c = λ p index none all.
    let f = g.B.BitBlock.number in
    unused_from_apart g.B.BitBlock.width (c.args.q * g.B.BitBlock.width + p) f g.B.BitBlock.is_block
    c.args.self.others.blocks.now (map f c.args.self.except.blocks.now) (λ x is. (g.met.B.BitBlock.number_law x is).0)
    c.requires.summaries.0.0 (sym (c.used_at.ensures.digits p index) ∙ none) all
