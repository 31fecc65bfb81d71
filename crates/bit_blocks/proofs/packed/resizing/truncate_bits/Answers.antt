use Rattle.std.proofs.Common.{arith}
use Rattle.bit_blocks.proofs.{BitsLemmas.blocks_for-le, PackedLemmas.cut_kept}
use Rattle.bit_blocks.proofs.packed.resizing.truncate_bits.Goals as goal

pub truncate_blocks-requires-clause-fewer : goal.truncate_blocks-requires-clause-fewer
truncate_blocks-requires-clause-fewer g c =
    let le = blocks_for-le g.B.BitBlock.width c.args.len c.args.old g.met.B.BitBlock.width_law.positive c.requires.shorter in omega arith

pub returns-clause-kept : goal.returns-clause-kept
returns-clause-kept g c =
    cut_kept _ _ _ _ _ _ g.met.B.BitBlock.width_law.positive c.block_count.ensures c.truncate_blocks.ensures.numbers c.clear_tail.ensures.values
