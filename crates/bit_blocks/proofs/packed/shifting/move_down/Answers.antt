use Rattle.std.proofs.{Common.{map, ◌∙◌, arith}, lemmas.List.length-map}
use Rattle.bit_blocks.{specs.Shifts.IsMovedDown, proofs.ShiftLemmas.{moved_from, put_holds, put_other, read_down}}
use Rattle.bit_blocks.proofs.packed.shifting.move_down.Goals as goal

pub loop-k-preserved : goal.loop-k-preserved
loop-k-preserved g c =
    let w = g.B.BitBlock.width in
    let old = map g.B.BitBlock.number c.args.blocks.now in
    let mid = map g.B.BitBlock.number c.loop-k.blocks in
    let new = map g.B.BitBlock.number c.put_in.new.blocks in
    let k = c.loop-k.k in
    let before = c.loop-k.invariant in
    let made : IsMovedDown w mid c.args.distance k (g.B.BitBlock.number c.block_from-block.result) =
    moved_from w mid k c.args.distance _ _ _ c.block_index-whole.ensures c.bit_index-low.ensures.value c.block_from-block.ensures.digits in
    record {
      moved = λ q below.
          put_holds (IsMovedDown w old c.args.distance) mid new k _ q c.put_in.ensures.numbers (rw length-map (omega (arith, c.loop-k-test.true)))
          (read_down w old mid c.args.distance k _ g.met.B.BitBlock.width_law.positive before.rest made)
          (λ other. before.moved q (omega (arith, below, other)));
      rest = λ q past. put_other mid new k _ q c.put_in.ensures.numbers (λ same. omega (arith, same, past)) ∙ before.rest q (omega (arith, past));
      written = record { each = c.put_in.ensures.each; len = c.put_in.ensures.len ∙ before.written.len };
    }
