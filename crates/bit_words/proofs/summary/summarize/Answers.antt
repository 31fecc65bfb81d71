use Rattle.std.proofs.{Common.{◌<◌, map, length, arith}, lemmas.List.length-map}
use Rattle.bit_words.proofs.SummaryLemmas.{chunk_begins, summary_of_blocks, summary_put}
use Rattle.bit_words.proofs.summary.summarize.Goals as goal

pub loop-q-preserved : goal.loop-q-preserved
loop-q-preserved g c =
    let q = c.loop-q.q in
    let ss = map g.B.BitBlock.number c.loop-q.summary.items in
    let within : q < length ss = rw length-map (omega arith) in
    record {
      done = summary_put g.B.BitBlock.width _ ss _ 0 q _ within c.put_block.ensures.numbers (rw c.bits.ensures at c.used_from.ensures.digits) c.loop-q.invariant.done;
      in_place = grind (arith, c.put_block.ensures.in_place, c.loop-q.invariant.in_place);
    }

pub overflow_mul-q : goal.overflow_mul-q
overflow_mul-q g c =
    omega (arith, chunk_begins g.B.BitBlock.width c.bits.result (length c.args.blocks.now) c.loop-q.q g.met.B.BitBlock.width_law.positive c.bits.ensures (omega arith), c.requires.fits)

pub used_from-requires-clause-in_bounds : goal.used_from-requires-clause-in_bounds
used_from-requires-clause-in_bounds g c =
    omega (arith, chunk_begins g.B.BitBlock.width c.bits.result (length c.args.blocks.now) c.loop-q.q g.met.B.BitBlock.width_law.positive c.bits.ensures (omega arith))

pub returns-clause-summary : goal.returns-clause-summary
returns-clause-summary g c =
    summary_of_blocks _ _ _ _ _ g.met.B.BitBlock.width_law.positive c.loop-q.invariant.in_place.each (omega (arith, c.loop-q.invariant.in_place.len)) (omega arith)
    (λ q j below index. c.loop-q.invariant.done q j (omega arith) (omega arith) index)
