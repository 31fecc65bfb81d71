use Rattle.std.proofs.{Common.{◌∙◌, refl, arith}, lemmas.List.{length-map, Elements.{All-same, All-push}}}
use Rattle.bit_blocks.proofs.PackedLemmas.{none_pushed, whole_pushed, cut_pushed, kept_below, map-pushed}
use Rattle.bit_blocks.proofs.packed.resizing.push_ones.Goals as goal

pub returns-then-len-whole-clause-added : goal.returns-then-len-whole-clause-added
returns-then-len-whole-clause-added g c = λ i past.
    none_pushed _ _ _ i g.met.B.BitBlock.width_law.positive (rw length-map (omega arith)) (rw length-map (omega arith))

pub returns-then-index-ne0-clause-kept : goal.returns-then-index-ne0-clause-kept
returns-then-index-ne0-clause-kept g c = λ i within.
    kept_below _ _ _ 1 _ i (map-pushed g.B.BitBlock.number _ _ _ c.push_reserved.ensures.items) (rw length-map (omega arith))
    ∙ kept_below _ _ _ _ _ i c.push_copies.ensures.numbers (rw length-map (omega arith))

pub returns-then-index-ne0-clause-added : goal.returns-then-index-ne0-clause-added
returns-then-index-ne0-clause-added g c = λ i past.
    cut_pushed _ _ _ _ c.args.len _ _ _ i g.met.B.BitBlock.width_law.positive (rw length-map (omega arith)) c.all_ones.ensures.of_number c.push_copies.ensures.numbers
    (rw c.bit_index-index.ensures.value at c.ones_below.ensures.of_number) (map-pushed g.B.BitBlock.number _ _ _ c.push_reserved.ensures.items) (rw length-map (omega arith))

pub returns-else-index-ne0-clause-kept : goal.returns-else-index-ne0-clause-kept
returns-else-index-ne0-clause-kept g c = λ i within.
    kept_below _ _ _ _ _ i c.push_copies.ensures.numbers (rw length-map (omega arith))

pub returns-else-index-ne0-clause-added : goal.returns-else-index-ne0-clause-added
returns-else-index-ne0-clause-added g c = λ i past.
    whole_pushed _ _ _ c.args.len _ _ i g.met.B.BitBlock.width_law.positive (omega arith)
    (rw length-map (omega arith)) c.all_ones.ensures.of_number c.push_copies.ensures.numbers (rw length-map (omega arith))

pub push_reserved-requires : goal.push_reserved-requires
push_reserved-requires g c = omega arith

pub returns-then-len-whole-clause-has : goal.returns-then-len-whole-clause-has
returns-then-len-whole-clause-has g c = record { each = c.requires.each; len = omega arith; capacity = refl }

pub returns-then-index-ne0-clause-has : goal.returns-then-index-ne0-clause-has
returns-then-index-ne0-clause-has g c = record {
  each = All-same g.B.BitBlock.is_block _ _ c.push_reserved.ensures.items (All-push g.B.BitBlock.is_block _ _ c.push_copies.ensures.each c.ones_below.ensures.of_block);
  len = omega arith;
  capacity = c.push_reserved.ensures.capacity ∙ c.push_copies.ensures.capacity;
}

pub returns-else-index-ne0-clause-has : goal.returns-else-index-ne0-clause-has
returns-else-index-ne0-clause-has g c = record { each = c.push_copies.ensures.each; len = omega arith; capacity = c.push_copies.ensures.capacity }
