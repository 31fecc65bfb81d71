use Rattle.std.proofs.{Common.{◌≡◌, ◌∙◌, map, refl, arith}, lemmas.List.length-map}
use Rattle.bit_blocks.proofs.PackedLemmas.{fills_more}
use Rattle.bit_blocks.proofs.packed.access.fill_each.Goals as goal

pub loop-k-init : goal.loop-k-init
loop-k-init g c = record {
  fills = record { filled = λ k below. absurd (omega arith); others = λ k past. refl };
  in_place = record { each = c.requires.each; len = refl; capacity = refl };
}

pub loop-k-preserved : goal.loop-k-preserved
loop-k-preserved g c = record {
  fills = fills_more _ (map g.B.BitBlock.number c.loop-k.blocks.items) _ c.loop-k.k _ (rw length-map (omega arith)) c.put_block.ensures.numbers c.loop-k.invariant.fills;
  in_place = record {
    each = c.put_block.ensures.in_place.each;
    len = omega arith;
    capacity = c.put_block.ensures.in_place.capacity ∙ c.loop-k.invariant.in_place.capacity;
  };
}

pub returns-clause-fills : goal.returns-clause-fills
returns-clause-fills g c =
    let end : c.loop-k.k ≡ c.args.count = omega arith in
    rw end at c.loop-k.invariant.fills

pub returns-clause-in_place : goal.returns-clause-in_place
returns-clause-in_place g c = c.loop-k.invariant.in_place
