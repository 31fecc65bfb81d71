use Rattle.std.proofs.lemmas.List.{map-set}
use Rattle.bit_blocks.proofs.packed.access.put_block.Goals as goal

pub returns-clause-numbers : goal.returns-clause-numbers
returns-clause-numbers g c = map-set g.B.BitBlock.number c.args.blocks.now.items c.args.k c.args.block
