use Rattle.bit_words.proofs.SummaryZeros.{zero_by_summary}
use Rattle.bit_words.proofs.summary.queries.are_zero_by_summary.Goals as goal

pub returns-else-is_short : goal.returns-else-is_short
returns-else-is_short g c =
    let xs = c.args.blocks.now in
    let long = c.is_short.ensures.long c.if-is_short.false in
    let chunks = zero_by_summary g.B.BitBlock.width g.B.BitBlock.number g.B.BitBlock.is_block (λ x is. (g.met.B.BitBlock.number_law x is).0) xs c.args.summary.now (c.requires.summary.long long) in
    (λ none. chunks.0 (c.are_zero-else-is_short.ensures.0 none), λ none. c.are_zero-else-is_short.ensures.1 (chunks.1 none))
