use Rattle.std.proofs.{Common.{◌-◌, map, ◌∙◌, arith}, lemmas.List.length-map}
use Rattle.bit_blocks.{specs.Shifts.IsMovedUp, proofs.ShiftLemmas.{put_holds, put_other, read_up}}
use Rattle.bit_blocks.proofs.packed.shifting.move_up.Goals as goal

pub loop-k-preserved : goal.loop-k-preserved
loop-k-preserved g c =
    let w = g.B.BitBlock.width in
    let old = map g.B.BitBlock.number c.args.blocks.now in
    let mid = map g.B.BitBlock.number c.loop-k.blocks in
    let new = map g.B.BitBlock.number c.put_in.new.blocks in
    let k = c.loop-k.k - 1 in
    let before = c.loop-k.invariant in
    let some = c.loop-k-test.true in
    record {
      moved = λ q from within.
          put_holds (IsMovedUp w old c.args.distance) mid new k _ q c.put_in.ensures.numbers (rw length-map (omega (arith, before.written.len, some, c.loop-k.auto.k)))
          (read_up w old mid c.args.distance k _ g.met.B.BitBlock.width_law.positive (λ p below. before.rest p (omega (arith, below, some))) c.block_below-block.ensures.digits)
          (λ other. before.moved q (omega (arith, from, other)) within);
      rest = λ q below. put_other mid new k _ q c.put_in.ensures.numbers (λ same. omega (arith, same, below)) ∙ before.rest q (omega (arith, below));
      written = record { each = c.put_in.ensures.each; len = c.put_in.ensures.len ∙ before.written.len };
    }
