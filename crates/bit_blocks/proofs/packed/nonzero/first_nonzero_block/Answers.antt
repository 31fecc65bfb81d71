use Rattle.std.proofs.{Common.arith, lemmas.List.{get_or_past, length-map}}
use Rattle.bit_blocks.proofs.packed.nonzero.first_nonzero_block.Goals as goal

pub returns : goal.returns
returns g c = λ k from. grind (arith, c.loop-k.invariant k from, get_or_past, length-map)
