use Rattle.std.proofs.{Common.{refl, arith}, lemmas.List.length-map}
use Rattle.bit_blocks.proofs.ChangeLemmas.{lowered_whole, lowered}
use Rattle.bit_blocks.proofs.packed.access.clear_tail.Goals as goal

pub returns-then-index-eq0-clause-values : goal.returns-then-index-eq0-clause-values
returns-then-index-eq0-clause-values g c = lowered_whole _ _ c.args.len g.met.B.BitBlock.width_law.positive (omega arith) (rw length-map (omega arith))

pub returns-clause-values : goal.returns-clause-values
returns-clause-values g c =
    lowered _ _ _ c.args.len _ _ _ _ g.met.B.BitBlock.width_law.positive c.block_index-k.ensures c.bit_index-index.ensures.value (omega arith) (rw length-map (omega arith))
    (rw c.deref.ensures.value at c.block_at.ensures.of_number) c.put_block.ensures.numbers c.with_zeros_from-block.ensures.digits

pub returns-then-index-eq0-clause-in_place : goal.returns-then-index-eq0-clause-in_place
returns-then-index-eq0-clause-in_place g c = record { each = c.requires.each; len = refl; capacity = refl }

pub block_at-requires-clause-in_bounds : goal.block_at-requires-clause-in_bounds
block_at-requires-clause-in_bounds g c = rw c.deref.ensures.value (omega (arith, c.requires.count, c.block_index-k.ensures, c.bit_index-index.ensures.value))

pub block_at-requires-clause-each : goal.block_at-requires-clause-each
block_at-requires-clause-each g c = rw c.deref.ensures.value c.requires.each

pub put_block-requires-clause-in_bounds : goal.put_block-requires-clause-in_bounds
put_block-requires-clause-in_bounds g c = omega (arith, c.requires.count, c.block_index-k.ensures, c.bit_index-index.ensures.value)

pub returns-clause-in_place : goal.returns-clause-in_place
returns-clause-in_place g c = c.put_block.ensures.in_place
