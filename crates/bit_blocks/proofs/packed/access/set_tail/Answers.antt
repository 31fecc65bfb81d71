use Rattle.std.proofs.{Common.{refl, arith}, lemmas.List.length-map}
use Rattle.bit_blocks.proofs.ChangeLemmas.{raised_none, value_at-raised, digits_between, digits_from}
use Rattle.bit_blocks.proofs.packed.access.set_tail.Goals as goal

pub returns-then-block_index-k-clause-values : goal.returns-then-block_index-k-clause-values
returns-then-block_index-k-clause-values g c = λ i within.
    value_at-raised _ _ _ c.args.len c.args.end _ _ _ _ g.met.B.BitBlock.width_law.positive c.block_index-k.ensures c.bit_index-index.ensures.value (omega arith) (rw length-map (omega arith))
    (rw c.deref.ensures.value at c.block_at-last.ensures.of_number) c.put_block.ensures.numbers
    (digits_between _ c.args.len c.args.end _ _ _ _ _ (omega arith) c.bit_index.ensures.value c.with_ones_between-raised.ensures.digits) i (rw length-map (omega arith))

pub returns-else-block_index-k-clause-values : goal.returns-else-block_index-k-clause-values
returns-else-block_index-k-clause-values g c = λ i within.
    value_at-raised _ _ _ c.args.len c.args.end _ _ _ _ g.met.B.BitBlock.width_law.positive c.block_index-k.ensures c.bit_index-index.ensures.value (omega arith) (rw length-map (omega arith))
    (rw c.deref.ensures.value at c.block_at-last.ensures.of_number) c.put_block-else-block_index-k.ensures.numbers
    (digits_from _ c.args.len c.args.end _ _ _ _ g.met.B.BitBlock.width_law.positive c.block_index-k.ensures
    c.requires.forward (omega arith) c.with_ones_from.ensures.digits) i (rw length-map (omega arith))

pub returns-then-index-eq0-clause-values : goal.returns-then-index-eq0-clause-values
returns-then-index-eq0-clause-values g c = λ i within. raised_none _ _ c.args.len c.args.end _ i g.met.B.BitBlock.width_law.positive c.requires.count (omega arith) within

pub returns-then-index-eq0-clause-in_place : goal.returns-then-index-eq0-clause-in_place
returns-then-index-eq0-clause-in_place g c = record { each = c.requires.each; len = refl; capacity = refl }

pub block_at-last-requires-clause-in_bounds : goal.block_at-last-requires-clause-in_bounds
block_at-last-requires-clause-in_bounds g c = rw c.deref.ensures.value (omega (arith, c.requires.count, c.block_index-k.ensures, c.bit_index-index.ensures.value))

pub block_at-last-requires-clause-each : goal.block_at-last-requires-clause-each
block_at-last-requires-clause-each g c = rw c.deref.ensures.value c.requires.each

pub put_block-requires-clause-in_bounds : goal.put_block-requires-clause-in_bounds
put_block-requires-clause-in_bounds g c = omega (arith, c.requires.count, c.block_index-k.ensures, c.bit_index-index.ensures.value)

pub put_block-requires-else-block_index-k-clause-in_bounds : goal.put_block-requires-else-block_index-k-clause-in_bounds
put_block-requires-else-block_index-k-clause-in_bounds g c = omega (arith, c.requires.count, c.block_index-k.ensures, c.bit_index-index.ensures.value)

pub returns-then-block_index-k-clause-in_place : goal.returns-then-block_index-k-clause-in_place
returns-then-block_index-k-clause-in_place g c = c.put_block.ensures.in_place

pub returns-else-block_index-k-clause-in_place : goal.returns-else-block_index-k-clause-in_place
returns-else-block_index-k-clause-in_place g c = c.put_block-else-block_index-k.ensures.in_place
