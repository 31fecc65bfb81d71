use Rattle.std.proofs.Common.{◌*◌, ◌-◌, map, ap, arith}
use Rattle.bit_blocks.proofs.ShiftLemmas.{moved_first}
use Rattle.bit_blocks.proofs.packed.shifting.block_below.Goals as goal

pub returns-then-missing-bits-clause-digits : goal.returns-then-missing-bits-clause-digits
returns-then-missing-bits-clause-digits g c =
    let w = g.B.BitBlock.width in
    let start = ap (λ n. c.args.k * n) c.bits.ensures in
    let small = c.if-missing-bits.true in
    moved_first w (map g.B.BitBlock.number c.args.blocks.now) c.args.k c.args.distance _ _ _
    (omega (arith, c.if-distance-start.false, start))
    (ap (λ n. c.args.distance - n) start)
    (omega (arith, small, c.bits-2.ensures))
    c.block_at.ensures.of_number
    c.shift_left.ensures.of_digits
