use Rattle.std.proofs.Common.{◌≡◌, ◌+◌, ◌*◌, ◌∙◌, get_or, map, arith}
use Rattle.bit_words.proofs.{ClearedLemmas.{cleared_chunk, set_zero}, ComparedLemmas.{ones_but_lowest, same_but_lowest}, TouchedLemmas.fewer_ones}
use Rattle.bit_words.proofs.summary.clearing.clear_used.Goals as goal

pub loop-left-smaller : goal.loop-left-smaller
loop-left-smaller g c =
    let taken = c.take_lowest_one-p.ensures in
    omega (arith, fewer_ones g.B.BitBlock.width _ _ _ g.B.BitBlock.width taken.lowest taken.cleared (omega arith) taken.within)

pub loop-left-preserved : goal.loop-left-preserved
loop-left-preserved g c =
    let w = g.B.BitBlock.width in
    let q = c.args.q in
    let p = c.take_lowest_one-p.result in
    let taken = c.take_lowest_one-p.ensures in
    let before = c.loop-left.invariant in
    let put = set_zero g.B.BitBlock.number (q * w + p) c.loop-left.blocks c.put_in.new.blocks _ (rw c.bits.ensures at c.put_in.ensures.numbers) c.zero.ensures.of_number in
    record {
      of_left = taken.of_block;
      inside = λ i within one. omega (arith, c.put_in.ensures.len, before.inside i within (ones_but_lowest _ _ _ _ i taken.cleared within one));
      zeros = same_but_lowest w p _ _ (λ i. get_or (map g.B.BitBlock.number c.put_in.new.blocks) (q * w + i) 0 ≡ 0) taken.cleared
          (λ i within none. put.stays (q * w + i) (before.zeros i within none)) put.here;
      before = λ k low. put.others k (λ e. omega (arith, e, low)) ∙ before.before k low;
      after = λ k high. put.others k (λ e. omega (arith, e, high, taken.within)) ∙ before.after k high;
      each = c.put_in.ensures.each;
      len = c.put_in.ensures.len ∙ before.len;
    }

pub returns : goal.returns
returns g c =
    cleared_chunk g.B.BitBlock.number g.B.BitBlock.is_block g.B.BitBlock.width c.args.q _ c.args.blocks.now c.loop-left.blocks (grind (arith, c.is_nonzero.ensures, c.loop-left-test.false))
    c.loop-left.invariant.zeros c.loop-left.invariant.before c.loop-left.invariant.after c.loop-left.invariant.each c.loop-left.invariant.len
