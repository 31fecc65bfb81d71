use Rattle.std.proofs.Common.{◌≡◌, ◌+◌, ◌*◌, ◌<◌, ◌==◌, ◌∙◌, ap, get_or, length, map, arith}
use Rattle.bit_words.proofs.{ComparedLemmas.{ones_but_lowest, same_but_lowest}, CopiedLemmas.{copied_chunk, set_block, still_same}, TouchedLemmas.{fewer_ones}}
use Rattle.bit_words.proofs.summary.copies.copy_used.Goals as goal

pub loop-left-smaller : goal.loop-left-smaller
loop-left-smaller g c =
    let taken = c.take_lowest_one-p.ensures in
    omega (arith, fewer_ones g.B.BitBlock.width _ _ _ g.B.BitBlock.width taken.lowest taken.cleared (omega arith) taken.within)

pub loop-left-preserved : goal.loop-left-preserved
loop-left-preserved g c =
    let w = g.B.BitBlock.width in
    let number = g.B.BitBlock.number in
    let q = c.args.q in
    let p = c.take_lowest_one-p.result in
    let taken = c.take_lowest_one-p.ensures in
    let before = c.loop-left.invariant in
    let index : q * w + p < length c.loop-left.blocks = before.inside p taken.within (ap (λ d. d == 1) taken.lowest.one) in
    let put = set_block number (q * w + p) _ c.loop-left.blocks c.put_in.new.blocks index (rw c.bits.ensures at c.put_in.ensures.numbers) in
    let here = put.here ∙ rw c.bits.ensures at c.block_at.ensures.of_number in
    record {
      of_left = taken.of_block;
      inside = λ i within one. omega (arith, c.put_in.ensures.len, before.inside i within (ones_but_lowest _ _ _ _ i taken.cleared within one));
      same = same_but_lowest w p _ _ (λ i. get_or (map number c.put_in.new.blocks) (q * w + i) 0 ≡ get_or (map number c.args.from.now) (q * w + i) 0) taken.cleared
          (λ i within none. still_same number (q * w + p) _ (q * w + i) c.args.from.now c.loop-left.blocks c.put_in.new.blocks put here (before.same i within none)) here;
      before = λ k low. put.others k (λ e. omega (arith, e, low)) ∙ before.before k low;
      after = λ k high. put.others k (λ e. omega (arith, e, high, taken.within)) ∙ before.after k high;
      each = c.put_in.ensures.each;
      len = c.put_in.ensures.len ∙ before.len;
    }

pub returns : goal.returns
returns g c =
    copied_chunk g.B.BitBlock.number g.B.BitBlock.is_block g.B.BitBlock.width c.args.q _ c.args.from.now c.args.blocks.now c.loop-left.blocks (grind (arith, c.is_nonzero.ensures, c.loop-left-test.false))
    c.loop-left.invariant.same c.loop-left.invariant.before c.loop-left.invariant.after c.loop-left.invariant.each c.loop-left.invariant.len
