use Rattle.std.proofs.{Common.{◌≡◌, ◌*◌, ◌/◌, ◌%◌, ap, subst, ◌∙◌, arith}, Math.Nat.mod_self}
use Rattle.bit_matrix.proofs.TransposeLemmas.{greater, single, some_squares, whole_squares, whole_strip, whole_twice}
use Rattle.bit_matrix.proofs.squares.transpose_strip.Goals as goal

pub transpose_groups-requires-clause-whole : goal.transpose_groups-requires-clause-whole
transpose_groups-requires-clause-whole g c =
    let it = c.loop-size.invariant in
    whole_twice g.B.BitBlock.width c.loop-size.size it.some it.whole (rw c.bits.ensures at c.loop-size-test.true)

pub loop-size-init : goal.loop-size-init
loop-size-init g c = record {
  some = omega arith;
  whole = omega arith;
  squares = single g.B.BitBlock.width c.args.width _;
  strip = record { each = c.load_strip.ensures.written.each; long = c.load_strip.ensures.written.len ∙ c.requires.strip.long };
}

pub loop-size-preserved : goal.loop-size-preserved
loop-size-preserved g c =
    let w = g.B.BitBlock.width in
    let s = c.loop-size.size in
    let it = c.loop-size.invariant in
    let made = c.transpose_groups.ensures in
    let twice : 2 * s ≡ s * 2 = omega arith in
    let whole = whole_twice w s it.some it.whole (rw c.bits.ensures at c.loop-size-test.true) in
    record {
      some = omega (arith, it.some);
      whole = subst (λ n. w % n ≡ 0) twice whole;
      squares = rw (← twice) (greater w c.args.width s 2 _ _ _ it.some (omega arith) whole it.squares made.exchanged);
      strip = record { each = made.written.each; long = made.written.len ∙ it.strip.long };
    }

pub transpose_groups-requires-2-clause-whole : goal.transpose_groups-requires-2-clause-whole
transpose_groups-requires-2-clause-whole g c =
    let w = g.B.BitBlock.width in
    let s = c.loop-size.size in
    rw c.bits-2.ensures (ap (λ n. w % n) (whole_squares w s c.loop-size.invariant.whole) ∙ mod_self w)

pub returns-clause-transposed : goal.returns-clause-transposed
returns-clause-transposed g c =
    let w = g.B.BitBlock.width in
    let width = c.args.width in
    let s = c.loop-size.size in
    let it = c.loop-size.invariant in
    let all = whole_squares w s it.whole in
    let last = rw c.bits-2.ensures at c.transpose_groups-2.ensures.exchanged in
    let many = some_squares w s g.met.B.BitBlock.width_law.positive it.whole in
    let squares = greater w width s (w / s) _ _ _ it.some many (ap (λ n. w % n) all ∙ mod_self w) it.squares last in
    whole_strip w width c.args.stride c.args.k (w / s * s) _ _ _ g.met.B.BitBlock.width_law.positive all squares c.load_strip.ensures.loaded
