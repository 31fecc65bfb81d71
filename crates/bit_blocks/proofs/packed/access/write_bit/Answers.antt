use Rattle.std.proofs.{Common.arith, lemmas.List.length-map}
use Rattle.bit_blocks.proofs.ChangeLemmas.{put_bit, put_read}
use Rattle.bit_blocks.proofs.packed.access.write_bit.Goals as goal

pub returns-clause-value : goal.returns-clause-value
returns-clause-value g c =
    put_bit _ _ _ _ _ _ _ _ _ g.met.B.BitBlock.width_law.positive c.block_index.ensures c.bit_index.ensures.value (rw length-map (omega arith)) (rw c.block_index.ensures c.requires.read)
    c.put_block.ensures.numbers c.with_bit-written.ensures.same c.with_bit-written.ensures.others

pub with_bit-written-requires-clause-within : goal.with_bit-written-requires-clause-within
with_bit-written-requires-clause-within g c = c.bit_index.ensures.within

pub put_block-requires-clause-in_bounds : goal.put_block-requires-clause-in_bounds
put_block-requires-clause-in_bounds g c = rw c.block_index.ensures c.requires.in_bounds

pub returns-clause-digit : goal.returns-clause-digit
returns-clause-digit g c = rw c.bit_index.ensures.value at c.with_bit-written.ensures.same

pub returns-clause-other_digits : goal.returns-clause-other_digits
returns-clause-other_digits g c = rw c.bit_index.ensures.value at c.with_bit-written.ensures.others

pub returns-clause-in_place : goal.returns-clause-in_place
returns-clause-in_place g c = c.put_block.ensures.in_place

pub returns-clause-of_number : goal.returns-clause-of_number
returns-clause-of_number g c = rw c.block_index.ensures at (put_read _ _ c.block_index.result _ (rw (length-map, c.block_index.ensures) (omega arith)) c.put_block.ensures.numbers)
