use Rattle.std.proofs.Common.{◌≡◌, ◌/◌, ◌<◌, map, ◌∙◌, ap, refl, arith}
use Rattle.bit_matrix.proofs.{SquareLemmas.written_on, TransposeLemmas.{no_rows, pairs_exchanged, rows_more, together}}
use Rattle.bit_matrix.proofs.squares.exchange_squares.Goals as goal

pub overflow_mul-row-in-loop-i : goal.overflow_mul-row-in-loop-i
overflow_mul-row-in-loop-i g c =
    let rows = together g.B.BitBlock.width c.args.size c.args.count c.loop-i.i c.args.a c.args.b c.args.stride c.requires.size c.requires.whole (rw c.bits.ensures at c.loop-i-test.true) c.requires.order c.requires.square in
    omega (arith, rows.upper, g.met.B.BitBlock.width_law.fits)

pub overflow_add-row-in-loop-i : goal.overflow_add-row-in-loop-i
overflow_add-row-in-loop-i g c =
    let rows = together g.B.BitBlock.width c.args.size c.args.count c.loop-i.i c.args.a c.args.b c.args.stride c.requires.size c.requires.whole (rw c.bits.ensures at c.loop-i-test.true) c.requires.order c.requires.square in
    omega (arith, rows.upper, g.met.B.BitBlock.width_law.fits)

pub overflow_mul-upper : goal.overflow_mul-upper
overflow_mul-upper g c =
    let rows = together g.B.BitBlock.width c.args.size c.args.count c.loop-i.i c.args.a c.args.b c.args.stride c.requires.size c.requires.whole (rw c.bits.ensures at c.loop-i-test.true) c.requires.order c.requires.square in
    omega (arith, rows.apart, rows.fits, c.requires.strip.long)

pub overflow_add-lower : goal.overflow_add-lower
overflow_add-lower g c =
    let rows = together g.B.BitBlock.width c.args.size c.args.count c.loop-i.i c.args.a c.args.b c.args.stride c.requires.size c.requires.whole (rw c.bits.ensures at c.loop-i-test.true) c.requires.order c.requires.square in
    omega (arith, rows.is, rows.lower, g.met.B.BitBlock.width_law.fits)

pub overflow_mul-lower : goal.overflow_mul-lower
overflow_mul-lower g c =
    let rows = together g.B.BitBlock.width c.args.size c.args.count c.loop-i.i c.args.a c.args.b c.args.stride c.requires.size c.requires.whole (rw c.bits.ensures at c.loop-i-test.true) c.requires.order c.requires.square in
    omega (arith, rows.fits, c.requires.strip.long)

pub exchange_rows-requires-clause-apart : goal.exchange_rows-requires-clause-apart
exchange_rows-requires-clause-apart g c =
    let rows = together g.B.BitBlock.width c.args.size c.args.count c.loop-i.i c.args.a c.args.b c.args.stride c.requires.size c.requires.whole (rw c.bits.ensures at c.loop-i-test.true) c.requires.order c.requires.square in
    rows.apart

pub exchange_rows-requires-clause-inside : goal.exchange_rows-requires-clause-inside
exchange_rows-requires-clause-inside g c =
    let rows = together g.B.BitBlock.width c.args.size c.args.count c.loop-i.i c.args.a c.args.b c.args.stride c.requires.size c.requires.whole (rw c.bits.ensures at c.loop-i-test.true) c.requires.order c.requires.square in
    omega (arith, rows.fits, c.requires.strip.long, c.loop-i.invariant.written.len)

pub exchange_rows-requires-clause-within : goal.exchange_rows-requires-clause-within
exchange_rows-requires-clause-within g c =
    let rows = together g.B.BitBlock.width c.args.size c.args.count c.loop-i.i c.args.a c.args.b c.args.stride c.requires.size c.requires.whole (rw c.bits.ensures at c.loop-i-test.true) c.requires.order c.requires.square in
    omega (arith, rows.is, rows.lower)

pub loop-i-init : goal.loop-i-init
loop-i-init g c = record { rows = no_rows _ _ _ _ _ _ _ _ _; written = record { each = c.requires.strip.each; len = refl } }

pub loop-i-preserved : goal.loop-i-preserved
loop-i-preserved g c =
    let w = g.B.BitBlock.width in
    let f = g.B.BitBlock.number in
    let rows = together g.B.BitBlock.width c.args.size c.args.count c.loop-i.i c.args.a c.args.b c.args.stride c.requires.size c.requires.whole (rw c.bits.ensures at c.loop-i-test.true) c.requires.order c.requires.square in
    record {
      rows = rows_more w c.args.stride c.args.size c.args.count c.args.a c.args.b _ _ c.loop-i.i (map f c.args.blocks.now)
          (map f c.loop-i.blocks) (map f c.exchange_rows.new.blocks) c.requires.size c.requires.order c.requires.square
          c.loop-i.invariant.rows (rw rows.is at c.exchange_rows.ensures.exchanged);
      written = written_on _ _ _ _ c.loop-i.invariant.written c.exchange_rows.ensures.written;
    }

pub returns-clause-exchanged : goal.returns-clause-exchanged
returns-clause-exchanged g c =
    let w = g.B.BitBlock.width in
    let f = g.B.BitBlock.number in
    let last : c.loop-i.i ≡ w / c.args.count = omega (arith, c.loop-i-test.false, c.loop-i.auto.i-end, ap (λ n. n / c.args.count) c.bits.ensures) in
    let rows = rw last at c.loop-i.invariant.rows in
    pairs_exchanged w c.args.stride c.args.size c.args.count c.args.a c.args.b _ _ (map f c.args.blocks.now)
    (map f c.loop-i.blocks) c.requires.size c.requires.whole c.requires.order c.requires.square
    c.columns_of-left.ensures.digits c.columns_of-right.ensures.digits rows
