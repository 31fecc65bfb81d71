use Rattle.std.proofs.Common.{◌≡◌, length, arith}
use Rattle.bit_words.{proofs.SummaryLemmas.filled_summary}
use Rattle.bit_words.proofs.summary.clearing.fill_long.Goals as goal

pub returns-clause-summary : goal.returns-clause-summary
returns-clause-summary g c =
    let count : length c.fill_blocks.new.blocks.items ≡ c.len.result = omega arith in
    filled_summary g.B.BitBlock.width _ g.B.BitBlock.number g.B.BitBlock.is_block c.fill_blocks.new.blocks.items c.fill_bits.new.blocks.items c.args.bit g.met.B.BitBlock.width_law.positive
    (λ x is. (g.met.B.BitBlock.number_law x is).0) c.fill_blocks.ensures.packed c.fill_blocks.ensures.filled
    (rw (← count) at c.fill_bits.ensures.packed) (λ k within. c.fill_bits.ensures.filled k (omega arith))
