use Rattle.std.proofs.{Common.{◌∙◌, ◌-◌, length, sym, arith, ⊎_elim}, lemmas.Bool.cases_lt}
use Rattle.bit_blocks.proofs.BitsLemmas.{blocks_for-above}
use Rattle.bit_words.proofs.SummaryLemmas.{keeps_all, keeps_none, is_summary, summary_updated}
use Rattle.bit_words.proofs.summary.append_to_summary.Goals as goal

pub update_summary_at-requires-clause-in_summary : goal.update_summary_at-requires-clause-in_summary
update_summary_at-requires-clause-in_summary g c =
    let longer = c.requires.longer in
    let within = blocks_for-above g.B.BitBlock.width (length c.args.blocks.now) (c.args.old - 1) g.met.B.BitBlock.width_law.positive (omega arith) in
    omega arith

pub returns-then-is_short-clause-summary : goal.returns-then-is_short-clause-summary
returns-then-is_short-clause-summary g c =
    let few = c.is_short.ensures.short c.if-is_short.true in
    keeps_none _ _ _ _ _ few (c.requires.none few)

pub returns-then-old-ne0-clause-summary : goal.returns-then-old-ne0-clause-summary
returns-then-old-ne0-clause-summary g c =
    let longer = c.requires.longer in
    let long = c.is_short.ensures.long c.if-is_short.false in
    keeps_all _ _ _ _ _ long
    (summary_updated _ _ _ _ c.append_bits.new.blocks _ (c.args.old - 1) (omega arith) c.append_bits.ensures.packed
    (λ k within other.
    ⊎_elim
    (λ first. c.append_bits.ensures.kept k first ∙ c.requires.before long k (omega arith))
    (λ added. c.append_bits.ensures.added k added within ∙ sym (c.requires.after k added within))
    (cases_lt k c.args.old))
    c.update_summary_at.ensures.value c.update_summary_at.ensures.in_place)

pub returns-else-bit-clause-summary : goal.returns-else-bit-clause-summary
returns-else-bit-clause-summary g c =
    let long = c.is_short.ensures.long c.if-is_short.false in
    keeps_all _ _ _ _ _ long
    (is_summary _ _ _ _ _ c.append_bits.ensures.packed
    (λ k within.
    ⊎_elim
    (λ first.
    c.append_bits.ensures.kept k first
    ∙ ⊎_elim (λ none. absurd (omega (arith, none.1))) (λ zeros. c.requires.last long zeros k first) c.else-bit.either)
    (λ added. c.append_bits.ensures.added k added within ∙ sym (c.requires.after k added within))
    (cases_lt k c.args.old)))
