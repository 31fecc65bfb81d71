use Rattle.std.proofs.{Common.{◌≡◌, map, refl, arith}, lemmas.List.length-map}
use Rattle.bit_blocks.proofs.PackedLemmas.{fills_more}
use Rattle.bit_blocks.proofs.packed.access.fill_slice.Goals as goal

pub loop-k-init : goal.loop-k-init
loop-k-init g c = record {
  fills = record { filled = λ k below. absurd (omega arith); others = λ k past. refl };
  written = record { each = c.requires.each; len = refl };
}

pub loop-k-preserved : goal.loop-k-preserved
loop-k-preserved g c = record {
  fills = fills_more _ (map g.B.BitBlock.number c.loop-k.blocks) _ c.loop-k.k _ (rw length-map (omega arith)) c.put_in.ensures.numbers c.loop-k.invariant.fills;
  written = record { each = c.put_in.ensures.each; len = omega arith };
}

pub returns-clause-fills : goal.returns-clause-fills
returns-clause-fills g c =
    let end : c.loop-k.k ≡ c.args.count = omega arith in
    rw end at c.loop-k.invariant.fills
