use Rattle.std.proofs.Common.{arith}
use Rattle.bit_words.proofs.SummaryLemmas.{keeps_none}
use Rattle.bit_words.proofs.summary.merges.merge_by.Goals as goal

pub returns-then-is_short-clause-summary : goal.returns-then-is_short-clause-summary
returns-then-is_short-clause-summary g c =
    let few = c.is_short.ensures.short c.if-is_short.true in
    keeps_none _ _ _ _ _ (omega (arith, few, c.merge_from.ensures.has.len)) (c.requires.summary.short few)
