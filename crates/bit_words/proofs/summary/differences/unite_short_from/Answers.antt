use Rattle.std.proofs.Common.{length, arith}
use Rattle.bit_blocks.proofs.BlockMergeLemmas.{merged_past_stay}
use Rattle.bit_words.proofs.summary.differences.unite_short_from.Goals as goal

pub returns : goal.returns
returns g c =
    merged_past_stay _ _ _ _ c.args.start (length c.args.blocks.now) _ _ _ (omega (arith, c.requires.from, c.requires.can.fewer)) c.requires.stay c.unite_except.ensures
