use Rattle.std.proofs.Common.{◌≡◌, ◌+◌, ◌*◌, ◌<◌, ◌≤◌, ◌∙◌, ap, length, map, max, sym, arith, ⊎_elim, mul-le-mul_right}
use Rattle.std.proofs.lemmas.{Bool.cases_lt, List.length-map}
use Rattle.bit_blocks.{specs.Bits.blocks_for, proofs.BitsLemmas.{blocks_for-enough, blocks_for-le}}
use Rattle.bit_words.{specs.MergedOnes.merged_ones, proofs.{MergedOnesLemmas.{merged_all, merged_empty, merged_more}, SummaryLemmas.stored_few}}
use Rattle.bit_words.proofs.summary.counts.by_summaries.ones_of_long.Goals.{After-block_count-end, After-min-count, After-ones_of_chunks, After-ones_of_group-ones, After-ones_past}
use Rattle.bit_words.proofs.summary.counts.by_summaries.ones_of_long.Goals as goal

-- a group has some chunks
some : (g : _) (c : After-min-count g) → 0 < c.min-count.result
some g c = omega (arith, c.min-count.ensures, c.bits.ensures, g.met.B.BitBlock.width_law.positive)

-- with those of a group more
counted : (g : _) (c : After-ones_of_group-ones g)
    → c.loop-first.ones + c.ones_of_group-ones.result ≡ merged_ones g.O.Operation.merge g.B.BitBlock.width
    (map g.B.BitBlock.number c.args.blocks.now) (map g.B.BitBlock.number c.args.others.now) 0
    ((c.loop-first.first + c.min-count.result) * g.B.BitBlock.width)
counted g c =
    let w = g.B.BitBlock.width in
    let first = c.loop-first.first in
    let more : first ≤ first + c.min-count.result = omega arith in
    merged_more g.O.Operation.merge w _ _ 0 (first * w) ((first + c.min-count.result) * w) _ _ (omega arith) (mul-le-mul_right w more) c.loop-first.invariant.counted
    c.ones_of_group-ones.ensures

pub overflow_add-ones : goal.overflow_add-ones
overflow_add-ones g c =
    let more = counted g (goal.at.overflow_add-ones g c).After-ones_of_group-ones in
    omega (arith, more, c.requires.fits ((c.loop-first.first + c.min-count.result) * g.B.BitBlock.width))

pub loop-first-init : goal.loop-first-init
loop-first-init g c =
    let ones = merged_ones g.O.Operation.merge g.B.BitBlock.width (map g.B.BitBlock.number c.args.blocks.now) (map g.B.BitBlock.number c.args.others.now) in
    record {
      within = omega arith;
      counted = sym (merged_empty g.O.Operation.merge g.B.BitBlock.width _ _ 0) ∙ ap (ones 0) (let e : 0 ≡ 0 * g.B.BitBlock.width = omega arith in e);
    }

pub loop-first-preserved : goal.loop-first-preserved
loop-first-preserved g c = record {
  within = omega (arith, c.loop-first-test.true, c.loop-first.invariant.within);
  counted = counted g (goal.at.loop-first-preserved g c).After-ones_of_group-ones;
}

pub loop-first-smaller : goal.loop-first-smaller
loop-first-smaller g c =
    let positive = some g (goal.at.loop-first-smaller g c).After-min-count in
    omega (arith, positive, c.loop-first-test.true, c.loop-first.invariant.within)

pub ones_of_group-ones-requires-clause-ends : goal.ones_of_group-ones-requires-clause-ends
ones_of_group-ones-requires-clause-ends g c = omega (arith, c.loop-first-test.true, c.loop-first.invariant.within, c.min-both.type_inv)

pub ones_of_group-ones-requires-clause-in_summary : goal.ones_of_group-ones-requires-clause-in_summary
ones_of_group-ones-requires-clause-in_summary g c = omega (arith, c.loop-first-test.true, c.loop-first.invariant.within, c.min-both.ensures)

pub ones_of_group-ones-requires-clause-in_other : goal.ones_of_group-ones-requires-clause-in_other
ones_of_group-ones-requires-clause-in_other g c = omega (arith, c.loop-first-test.true, c.loop-first.invariant.within, c.min-both.ensures)

-- the summaries are about no more blocks than both lists have
forward : (g : _) (c : After-block_count-end g) → c.loop-first.first ≤ c.block_count-end.result
forward g c =
    let w = g.B.BitBlock.width in
    let pos = g.met.B.BitBlock.width_law.positive in
    ⊎_elim
    (λ (less : length c.args.blocks.now < length c.args.others.now).
    let few = stored_few w c.min-least.result g.B.BitBlock.number _ _ _ pos c.requires.summary (omega (arith, less, c.min-least.ensures)) in
    omega (arith, few, c.loop-first.invariant.within, c.min-both.ensures, c.block_count-end.ensures))
    (λ (more : length c.args.others.now ≤ length c.args.blocks.now).
    let few = stored_few w c.min-least.result g.B.BitBlock.number _ _ _ pos c.requires.other_summary (omega (arith, more, c.min-least.ensures)) in
    omega (arith, few, c.loop-first.invariant.within, c.min-both.ensures, c.block_count-end.ensures))
    (cases_lt (length c.args.blocks.now) (length c.args.others.now))

pub ones_of_chunks-requires-clause-forward : goal.ones_of_chunks-requires-clause-forward
ones_of_chunks-requires-clause-forward g c = forward g (goal.at.ones_of_chunks-requires-clause-forward g c).After-block_count-end

-- there are as many chunks of the longer list at least
in_blocks : (g : _) (c : After-block_count-end g) → c.block_count-end.result ≤ blocks_for g.B.BitBlock.width (max (length c.args.blocks.now) (length c.args.others.now))
in_blocks g c =
    omega (arith, blocks_for-le g.B.BitBlock.width c.min-least.result (max (length c.args.blocks.now) (length c.args.others.now)) g.met.B.BitBlock.width_law.positive (omega (arith, c.min-least.ensures)), c.block_count-end.ensures)

pub ones_of_chunks-requires-clause-in_blocks : goal.ones_of_chunks-requires-clause-in_blocks
ones_of_chunks-requires-clause-in_blocks g c = in_blocks g (goal.at.ones_of_chunks-requires-clause-in_blocks g c).After-block_count-end

pub ones_past-requires-clause-in_blocks : goal.ones_past-requires-clause-in_blocks
ones_past-requires-clause-in_blocks g c = in_blocks g (goal.at.ones_past-requires-clause-in_blocks g c).After-block_count-end

pub ones_past-requires-clause-ended : goal.ones_past-requires-clause-ended
ones_past-requires-clause-ended g c =
    let w = g.B.BitBlock.width in
    let whole : blocks_for w c.min-least.result ≤ c.block_count-end.result = omega (arith, c.block_count-end.ensures) in
    omega (arith, blocks_for-enough w c.min-least.result g.met.B.BitBlock.width_law.positive, mul-le-mul_right w whole, c.min-least.ensures)

-- with those of the chunks that both lists have
shared : (g : _) (c : After-ones_of_chunks g) → c.loop-first.first ≤ c.block_count-end.result
    → c.loop-first.ones + c.ones_of_chunks.result ≡ merged_ones g.O.Operation.merge g.B.BitBlock.width
    (map g.B.BitBlock.number c.args.blocks.now) (map g.B.BitBlock.number c.args.others.now) 0
    (c.block_count-end.result * g.B.BitBlock.width)
shared g c le =
    let w = g.B.BitBlock.width in
    merged_more g.O.Operation.merge w _ _ 0 (c.loop-first.first * w) (c.block_count-end.result * w) _ _ (omega arith) (mul-le-mul_right w le) c.loop-first.invariant.counted
    c.ones_of_chunks.ensures

pub overflow_add-shared : goal.overflow_add-shared
overflow_add-shared g c =
    let at = goal.at.overflow_add-shared g c in
    let sum = shared g at.After-ones_of_chunks (forward g at.After-block_count-end) in
    omega (arith, sum, c.requires.fits (c.block_count-end.result * g.B.BitBlock.width))

-- and those past them
all : (g : _) (c : After-ones_past g) → c.loop-first.first ≤ c.block_count-end.result →
    let end = c.block_count-end.result * g.B.BitBlock.width in
    let ones = merged_ones g.O.Operation.merge g.B.BitBlock.width (map g.B.BitBlock.number c.args.blocks.now) (map g.B.BitBlock.number c.args.others.now) in
    c.loop-first.ones + c.ones_of_chunks.result ≡ ones 0 end →
    c.loop-first.ones + c.ones_of_chunks.result + c.ones_past.result ≡ ones 0 (end + max (length c.args.blocks.now) (length c.args.others.now))
all g c le so_far =
    let end = c.block_count-end.result * g.B.BitBlock.width in
    merged_more g.O.Operation.merge g.B.BitBlock.width _ _ 0 end (end + max (length c.args.blocks.now) (length c.args.others.now)) _ _ (omega arith) (omega arith) so_far c.ones_past.ensures

pub overflow_add-result : goal.overflow_add-result
overflow_add-result g c =
    let at = goal.at.overflow_add-result g c in
    let le = forward g at.After-block_count-end in
    let sum = all g at.After-ones_past le (shared g at.After-ones_of_chunks le) in
    omega (arith, sum, c.requires.fits (c.block_count-end.result * g.B.BitBlock.width + max (length c.args.blocks.now) (length c.args.others.now)))

pub returns : goal.returns
returns g c = λ n long also.
    let at = goal.at.returns g c in
    let w = g.B.BitBlock.width in
    let le = forward g at.After-block_count-end in
    let end = c.block_count-end.result * w + max (length c.args.blocks.now) (length c.args.others.now) in
    all g at.After-ones_past le (shared g at.After-ones_of_chunks le)
    ∙ merged_all g.O.Operation.merge w (map g.B.BitBlock.number c.args.blocks.now) (map g.B.BitBlock.number c.args.others.now) end n g.met.B.BitBlock.width_law.positive
    (rw length-map (omega arith)) (rw length-map (omega arith)) (rw length-map long) (rw length-map also)
