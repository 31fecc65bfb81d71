use Rattle.std.proofs.Common.{◌≡◌, map, get_or, ◌∙◌, refl, arith}
use Rattle.bit_blocks.proofs.ChangeLemmas.{bit_before, value_read}
use Rattle.bit_blocks.proofs.packed.access.exchange_bit.Goals as goal

pub returns-clause-was : goal.returns-clause-was
returns-clause-was g c =
    let xs = c.args.blocks.now.items in
    let f = g.B.BitBlock.number in
    let law = g.met.B.BitBlock in
    let read : f c.block_at-block.result ≡ get_or (map f xs) c.block_index.result 0 = rw c.deref.ensures.value at c.block_at-block.ensures.of_number in
    bit_before g.B.BitBlock.width (f c.block_at-block.result) (f c.write_bit-written.result) _ c.args.bit c.same.result
    (law.number_law c.block_at-block.result c.block_at-block.ensures.of_block).0
    (law.number_law c.write_bit-written.result c.write_bit-written.ensures.of_block).0 c.write_bit-written.ensures.digit
    c.write_bit-written.ensures.other_digits c.same.ensures
    ∙ value_read _ _ _ _ _ _ c.block_index.ensures refl read

pub block_at-block-requires-clause-in_bounds : goal.block_at-block-requires-clause-in_bounds
block_at-block-requires-clause-in_bounds g c = rw (c.deref.ensures.value, c.block_index.ensures) (omega arith)

pub block_at-block-requires-clause-each : goal.block_at-block-requires-clause-each
block_at-block-requires-clause-each g c = rw c.deref.ensures.value c.requires.each

pub write_bit-written-requires-clause-read : goal.write_bit-written-requires-clause-read
write_bit-written-requires-clause-read g c = rw (c.deref.ensures.value, c.block_index.ensures) at c.block_at-block.ensures.of_number

pub returns-clause-value : goal.returns-clause-value
returns-clause-value g c = c.write_bit-written.ensures.value

pub returns-clause-in_place : goal.returns-clause-in_place
returns-clause-in_place g c = c.write_bit-written.ensures.in_place

pub returns-clause-of_number : goal.returns-clause-of_number
returns-clause-of_number g c = c.write_bit-written.ensures.of_number
