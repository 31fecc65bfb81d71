use Rattle.std.proofs.Common.{arith}
use Rattle.bit_words.{proofs.SummaryLemmas.keeps_all}
use Rattle.bit_words.proofs.summary.clearing.fill_both.Goals as goal

pub returns-else-is_short-clause-summary : goal.returns-else-is_short-clause-summary
returns-else-is_short-clause-summary g c =
    keeps_all _ _ _ _ _ (omega (arith, c.is_short.ensures.long c.if-is_short.false, c.requires.packed.count, c.fill_long.ensures.packed.count)) c.fill_long.ensures.summary
