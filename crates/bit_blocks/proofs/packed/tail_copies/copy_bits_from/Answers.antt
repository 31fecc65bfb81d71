use Rattle.std.proofs.{Common.{◌∙◌, arith}, lemmas.List.length-map}
use Rattle.bit_blocks.proofs.TailLemmas.{tail_whole, tail_cut}
use Rattle.bit_blocks.proofs.packed.tail_copies.copy_bits_from.Goals as goal

pub returns-then-index-eq0-clause-values : goal.returns-then-index-eq0-clause-values
returns-then-index-eq0-clause-values g c =
    tail_whole _ _ _ _ c.args.at g.met.B.BitBlock.width_law.positive c.in_ok-copy.ensures.numbers c.block_index-k.ensures (omega arith)

pub returns-clause-values : goal.returns-clause-values
returns-clause-values g c =
    tail_cut _ _ _ _ _ c.args.at _ _ _ g.met.B.BitBlock.width_law.positive c.in_ok-copy.ensures.numbers c.block_index-k.ensures c.bit_index-index.ensures.value
    (rw length-map (omega (arith, c.in_ok-copy.ensures.len))) c.block_at.ensures.of_number c.put_block.ensures.numbers c.with_zeros_below-block.ensures.digits

pub block_at-requires-clause-in_bounds : goal.block_at-requires-clause-in_bounds
block_at-requires-clause-in_bounds g c = omega (arith, c.requires.within, c.block_index-k.ensures, c.bit_index-index.ensures.value)

pub put_block-requires-clause-in_bounds : goal.put_block-requires-clause-in_bounds
put_block-requires-clause-in_bounds g c = omega (arith, c.requires.within, c.block_index-k.ensures, c.bit_index-index.ensures.value, c.in_ok-copy.ensures.len)

pub put_block-requires-clause-each : goal.put_block-requires-clause-each
put_block-requires-clause-each g c = c.in_ok-copy.ensures.each

pub returns-then-index-eq0-clause-each : goal.returns-then-index-eq0-clause-each
returns-then-index-eq0-clause-each g c = c.in_ok-copy.ensures.each

pub returns-then-index-eq0-clause-len : goal.returns-then-index-eq0-clause-len
returns-then-index-eq0-clause-len g c = c.in_ok-copy.ensures.len

pub returns-then-index-eq0-clause-capacity : goal.returns-then-index-eq0-clause-capacity
returns-then-index-eq0-clause-capacity g c = c.in_ok-copy.ensures.capacity

pub returns-clause-each : goal.returns-clause-each
returns-clause-each g c = c.put_block.ensures.in_place.each

pub returns-clause-len : goal.returns-clause-len
returns-clause-len g c = c.put_block.ensures.in_place.len ∙ c.in_ok-copy.ensures.len

pub returns-clause-capacity : goal.returns-clause-capacity
returns-clause-capacity g c = c.put_block.ensures.in_place.capacity ∙ c.in_ok-copy.ensures.capacity
