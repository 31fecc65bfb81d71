use Rattle.std.proofs.Common.{◌∙◌, ◌-◌, length, arith}
use Rattle.bit_blocks.proofs.BitsLemmas.{blocks_for-above}
use Rattle.bit_words.proofs.SummaryLemmas.{keeps_all, keeps_none, summary_updated}
use Rattle.bit_words.proofs.summary.cut_summary.Goals as goal

pub returns-then-is_short-clause-summary : goal.returns-then-is_short-clause-summary
returns-then-is_short-clause-summary g c = keeps_none _ _ _ _ _ (c.is_short.ensures.short c.if-is_short.true) c.clear.ensures.items

pub update_summary_at-requires-clause-in_summary : goal.update_summary_at-requires-clause-in_summary
update_summary_at-requires-clause-in_summary g c =
    let long = c.is_short.ensures.long c.if-is_short.false in
    omega (arith, blocks_for-above g.B.BitBlock.width (length c.args.blocks.now) (length c.args.blocks.now - 1) g.met.B.BitBlock.width_law.positive (omega arith))

pub returns-clause-summary : goal.returns-clause-summary
returns-clause-summary g c =
    let long = c.is_short.ensures.long c.if-is_short.false in
    keeps_all _ _ _ _ _ long
    (summary_updated _ _ _ _ c.truncate_bits.new.blocks _ (length c.args.blocks.now - 1) (omega arith) c.truncate_bits.ensures.packed
    (λ k within other. c.truncate_bits.ensures.kept k within ∙ c.requires.before (omega arith) k (omega arith))
    c.update_summary_at.ensures.value c.update_summary_at.ensures.in_place)
