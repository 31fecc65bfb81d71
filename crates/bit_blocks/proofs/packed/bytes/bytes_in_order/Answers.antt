use Rattle.std.proofs.Common.{◌≡◌, ◌+◌, ◌*◌, ◌/◌, ◌%◌, ◌<◌, map, sym, div-add-mod', mod-lt, arith}
use Rattle.bit_blocks.proofs.ByteLemmas.{block_of_byte, bytes_more, first_below, whole_bytes}
use Rattle.bit_blocks.proofs.packed.bytes.bytes_in_order.Goals as goal

pub block_at-requires-clause-in_bounds : goal.block_at-requires-clause-in_bounds
block_at-requires-clause-in_bounds g c =
    let width = g.met.B.BitBlock.width_law in
    let s = c.bits-step.result / 8 in
    let pos : 0 < s = omega (arith, whole_bytes _ _ width c.bits-step.ensures, width.positive) in
    let before = first_below s c.loop-k.k c.div_ceil-count.result pos (omega arith) in
    rw (sym c.requires.count) at (block_of_byte g.B.BitBlock.width _ c.loop-k.k c.div_ceil-count.result c.args.len width c.bits-step.ensures (omega arith) (omega (arith, before, pos)))

pub loop-k-preserved : goal.loop-k-preserved
loop-k-preserved g c =
    let before = c.loop-k.invariant in
    let more = c.with_bytes-bytes.ensures in
    let k = c.loop-k.k in
    let s = c.bits-step.result / 8 in
    let next : k * s + s ≡ (k + 1) * s = omega arith in
    record {
      count = omega (arith, more.len, before.count, next);
      capacity = omega (arith, more.capacity, before.capacity);
      digits = λ q j within index. bytes_more g.B.BitBlock.width _ k _ s _
          (map g.B.BitBlock.number c.args.blocks.now) _ _ g.T.ByteOrder.place g.met.B.BitBlock.width_law c.bits-step.ensures
          (omega arith) before.count c.block_at.ensures.of_number more.kept more.digits before.digits q j
          (omega (arith, within, before.count, next)) index;
    }

pub block_at-requires-2-clause-in_bounds : goal.block_at-requires-2-clause-in_bounds
block_at-requires-2-clause-in_bounds g c =
    let width = g.met.B.BitBlock.width_law in
    let n = c.div_ceil-count.result in
    let s = c.bits-step.result / 8 in
    let split = div-add-mod' n s in
    rw (sym c.requires.count) at (block_of_byte g.B.BitBlock.width _ (n / s) n c.args.len width c.bits-step.ensures (omega arith) (omega (arith, split)))

pub returns-clause-values : goal.returns-clause-values
returns-clause-values g c = λ q j within index.
    let width = g.met.B.BitBlock.width_law in
    let before = c.loop-k.invariant in
    let more = c.with_bytes.ensures in
    let n = c.div_ceil-count.result in
    let s = c.bits-step.result / 8 in
    let end : c.loop-k.k ≡ n / s = omega arith in
    let count = rw end at before.count in
    let pos : 0 < s = omega (arith, whole_bytes _ _ width c.bits-step.ensures, width.positive) in
    let fewer = mod-lt n pos in
    let split = div-add-mod' n s in
    bytes_more g.B.BitBlock.width _ (n / s) _ (n % s) _
    (map g.B.BitBlock.number c.args.blocks.now) _ _ g.T.ByteOrder.place width c.bits-step.ensures
    (omega (arith, fewer)) count c.block_at-2.ensures.of_number more.kept more.digits (rw end at before.digits) q j
    (omega (arith, within, count, split)) index
