use Rattle.std.proofs.{Common.length-set, lemmas.List.{map-set, Elements.All-set}}
use Rattle.bit_blocks.proofs.packed.access.put_in.Goals as goal

pub returns-clause-numbers : goal.returns-clause-numbers
returns-clause-numbers g c = map-set g.B.BitBlock.number c.args.blocks.now c.args.k c.args.block

pub returns-clause-each : goal.returns-clause-each
returns-clause-each g c = All-set g.B.BitBlock.is_block c.args.blocks.now c.args.k c.args.block c.requires.of_block c.requires.each

pub returns-clause-len : goal.returns-clause-len
returns-clause-len g c = length-set c.args.blocks.now c.args.k c.args.block
