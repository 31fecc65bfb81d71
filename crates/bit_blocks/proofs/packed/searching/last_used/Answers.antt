use Rattle.std.proofs.Common.{length, length-take, ap, arith}
use Rattle.bit_blocks.proofs.SearchLemmas.{last_used_is, none_used_past}
use Rattle.bit_blocks.proofs.packed.searching.last_used.Goals as goal

pub returns-then-count-eq0 : goal.returns-then-count-eq0
returns-then-count-eq0 g c = λ j below. none_used_past g.B.BitBlock.number c.args.blocks.now _ c.args.end _
    c.used_blocks-count.result c.split_at.ensures.front c.min.ensures c.used_blocks-count.ensures.zeros j (omega arith) below

pub returns : goal.returns
returns g c =
    last_used_is g.B.BitBlock.number c.args.blocks.now _ c.args.end c.min.result _ c.split_at.ensures.front c.min.ensures
    c.used_blocks-count.ensures.zeros (omega arith)
    (omega (arith, c.used_blocks-count.ensures.within, ap length c.split_at.ensures.front, length-take c.min.result c.args.blocks.now))
    (c.used_blocks-count.ensures.last (omega arith))
