use Rattle.std.proofs.Common.{length, arith}
use Rattle.bit_blocks.proofs.{TailLemmas.{tail_packed, tail_use}, BitsLemmas.{blocks_for-above, blocks_for-le}}
use Rattle.bit_words.proofs.SummaryLemmas.{keeps_all, summary_updated}
use Rattle.bit_words.proofs.summary.copies.copy_summary_from.Goals as goal

pub copy_bits_from-requires-clause-within : goal.copy_bits_from-requires-clause-within
copy_bits_from-requires-clause-within g c =
    omega (arith, blocks_for-le g.B.BitBlock.width c.args.k (length c.args.blocks.now) g.met.B.BitBlock.width_law.positive (omega arith), (c.requires.packed (c.is_short.ensures.long c.if-is_short.false)).count)

pub returns-clause-summary : goal.returns-clause-summary
returns-clause-summary g c =
    let long = c.is_short.ensures.long c.if-is_short.false in
    keeps_all _ _ _ _ _ long
    (summary_updated _ _ _ c.args.blocks.now c.in_ok-copy.copy _ c.args.k (omega arith)
    (tail_packed _ _ c.args.k _ _ c.args.summary.now c.in_ok-copy.copy.items (c.requires.packed long) c.in_ok-copy.ensures.each (omega (arith, c.in_ok-copy.ensures.len)) c.in_ok-copy.ensures.values)
    (λ q within other. tail_use _ c.args.k q _ _ _ c.in_ok-copy.ensures.values c.requires.before (c.requires.after long) other)
    c.update_summary_at.ensures.value c.update_summary_at.ensures.in_place)

pub update_summary_at-requires-clause-in_summary : goal.update_summary_at-requires-clause-in_summary
update_summary_at-requires-clause-in_summary g c =
    let within = blocks_for-above g.B.BitBlock.width (length c.args.blocks.now) c.args.k g.met.B.BitBlock.width_law.positive (omega arith) in
    omega (arith, within, (c.requires.packed (c.is_short.ensures.long c.if-is_short.false)).count, c.in_ok-copy.ensures.len)
