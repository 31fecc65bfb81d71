use Rattle.std.proofs.Common.{◌∙◌, length, map, sym, arith}
use Rattle.std.proofs.lemmas.List.{length-map}
use Rattle.bit_words.proofs.MergedOnesLemmas.{merged_past, none_past_first, none_past_second}
use Rattle.bit_words.proofs.summary.counts.merged_len.Goals as goal

pub returns-then-keeps_first-clause-past : goal.returns-then-keeps_first-clause-past
returns-then-keeps_first-clause-past g c = λ a b past.
    merged_past _ _ _ _ a b g.met.B.BitBlock.width_law.positive (rw length-map (omega (arith, past))) (rw length-map (omega (arith, past)))

pub returns-else-keeps_first-clause-past : goal.returns-else-keeps_first-clause-past
returns-else-keeps_first-clause-past g c = λ a b past.
    none_past_second _ _ _ _ a b (sym c.keeps_first.ensures ∙ c.if-keeps_first.false) g.met.B.BitBlock.width_law.positive (rw length-map (omega (arith, past)))

pub returns-then-keeps_second-clause-past : goal.returns-then-keeps_second-clause-past
returns-then-keeps_second-clause-past g c = λ a b past.
    merged_past _ _ _ _ a b g.met.B.BitBlock.width_law.positive (rw length-map (omega (arith, past))) (rw length-map (omega (arith, past)))

pub returns-else-keeps_second-clause-past : goal.returns-else-keeps_second-clause-past
returns-else-keeps_second-clause-past g c = λ a b past.
    none_past_first _ _ _ _ a b (sym c.keeps_second.ensures ∙ c.if-keeps_second.false) g.met.B.BitBlock.width_law.positive (rw length-map (omega (arith, past)))
