use Rattle.std.proofs.Common.{length, arith}
use Rattle.bit_blocks.proofs.BitsLemmas.{blocks_for-le}
use Rattle.bit_words.proofs.CapacityLemmas.{stored_long}
use Rattle.bit_words.proofs.summary.store_summary.Goals as goal

pub store_short-requires-clause-capacity : goal.store_short-requires-clause-capacity
store_short-requires-clause-capacity g c =
    let fewer = blocks_for-le g.B.BitBlock.width (length c.args.blocks.now) c.args.count g.met.B.BitBlock.width_law.positive c.requires.longer in
    omega (arith, stored_long g.B.BitBlock.width c.args.count (c.is_short-then-is_short.ensures.long c.if-not-is_short.true))
