use Rattle.std.proofs.Common.{◌+◌, ◌-◌, length, arith}
use Rattle.bit_words.proofs.PutLemmas.{each_put, put_middle}
use Rattle.bit_words.proofs.summary.spans.put_slice.Goals as goal

pub returns-clause-put : goal.returns-clause-put
returns-clause-put g c =
    let ends = c.args.first + length c.args.from.now - c.args.first in
    rw (c.copy_from_slice.ensures.after) (put_middle g.B.BitBlock.number c.args.first ends c.args.blocks.now c.args.from.now (omega arith) (omega (arith, c.requires.within)))

pub returns-clause-each : goal.returns-clause-each
returns-clause-each g c = rw (c.copy_from_slice.ensures.after) (each_put g.B.BitBlock.is_block _ _ c.args.blocks.now c.args.from.now c.requires.each c.requires.each_from)
