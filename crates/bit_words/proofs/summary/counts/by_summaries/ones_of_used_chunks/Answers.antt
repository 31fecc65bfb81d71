use Rattle.std.proofs.Common.{◌≡◌, ◌+◌, ◌*◌, ◌≤◌, ◌==◌, ap, map, arith, sym, ◌∙◌, mul-le-mul_right}
use Rattle.std.proofs.lemmas.Bool.{not-false}
use Rattle.bit_words.{specs.MergedOnes.merged_ones, proofs.MergedOnesLemmas.{left_chunks, left_none, left_of, left_taken, merged_le, still_left}}
use Rattle.bit_words.proofs.summary.counts.by_summaries.ones_of_used_chunks.Goals.{After-ones_at_chunk-ones}
use Rattle.bit_words.proofs.summary.counts.by_summaries.ones_of_used_chunks.Goals as goal

pub loop-rest-init : goal.loop-rest-init
loop-rest-init g c = record {
  of_block = c.requires.of_block;
  within = c.requires.covers.within;
  counted = let all = left_chunks _ _ _ _ _ _ _ c.requires.within c.requires.covers in omega (arith, all);
}

-- the chunk that is taken, and those that are left then
taken : (g : _) (c : After-ones_at_chunk-ones g) →
    let w = g.B.BitBlock.width in
    let ones = merged_ones g.O.Operation.merge w (map g.B.BitBlock.number c.args.blocks.now) (map g.B.BitBlock.number c.args.others.now) in
    let left = left_of (λ j. ones ((c.args.first + j) * w) ((c.args.first + j + 1) * w)) w in
    left (g.B.BitBlock.number c.loop-rest.rest) ≡ c.ones_at_chunk-ones.result + left (g.B.BitBlock.number c.take_lowest_one-index.new.block)
taken g c =
    let lowest = c.take_lowest_one-index.ensures in
    rw c.ones_at_chunk-ones.ensures (left_taken _ _ _ _ _ lowest.lowest lowest.within lowest.cleared)

pub overflow_add-q : goal.overflow_add-q
overflow_add-q g c =
    let lowest = c.take_lowest_one-index.ensures in
    let inside = c.loop-rest.invariant.within _ lowest.within (ap (λ d. d == 1) lowest.lowest.one) in
    omega (arith, inside, c.requires.ends)

pub ones_at_chunk-ones-requires-clause-in_blocks : goal.ones_at_chunk-ones-requires-clause-in_blocks
ones_at_chunk-ones-requires-clause-in_blocks g c =
    let lowest = c.take_lowest_one-index.ensures in
    let inside = c.loop-rest.invariant.within _ lowest.within (ap (λ d. d == 1) lowest.lowest.one) in
    omega (arith, inside, c.requires.in_blocks)

pub overflow_add-ones : goal.overflow_add-ones
overflow_add-ones g c =
    let w = g.B.BitBlock.width in
    let first = c.args.first * w in
    let end = (c.args.first + c.args.count) * w in
    let one = taken g (goal.at.overflow_add-ones g c).After-ones_at_chunk-ones in
    let le : c.args.first ≤ c.args.first + c.args.count = omega arith in
    let most = merged_le g.O.Operation.merge w (map g.B.BitBlock.number c.args.blocks.now) (map g.B.BitBlock.number c.args.others.now) 0 first end end (omega arith)
    (mul-le-mul_right w le) (omega arith) in
    omega (arith, one, most, c.loop-rest.invariant.counted, c.requires.fits end)

pub loop-rest-smaller : goal.loop-rest-smaller
loop-rest-smaller g c =
    let lowest = c.take_lowest_one-index.ensures in
    let one = left_taken (λ _. 1) _ _ _ _ lowest.lowest lowest.within lowest.cleared in
    omega (arith, one)

pub loop-rest-preserved : goal.loop-rest-preserved
loop-rest-preserved g c =
    let lowest = c.take_lowest_one-index.ensures in
    let one = taken g (goal.at.loop-rest-preserved g c).After-ones_at_chunk-ones in
    record {
      of_block = lowest.of_block;
      within = λ j within left. c.loop-rest.invariant.within j within (still_left _ _ _ _ _ lowest.cleared within left);
      counted = omega (arith, one, c.loop-rest.invariant.counted);
    }

pub returns : goal.returns
returns g c =
    let w = g.B.BitBlock.width in
    let ones = merged_ones g.O.Operation.merge w (map g.B.BitBlock.number c.args.blocks.now) (map g.B.BitBlock.number c.args.others.now) in
    let same = g.met.B.BitBlock.eq_law c.loop-rest.rest c.zero.result c.loop-rest.invariant.of_block c.zero.ensures.of_block in
    let none = same.0 (not-false _ (sym c.ne.ensures ∙ c.loop-rest-test.false)) ∙ c.zero.ensures.of_number in
    let ended = left_none (λ j. ones ((c.args.first + j) * w) ((c.args.first + j + 1) * w)) w _ none in
    omega (arith, c.loop-rest.invariant.counted, ended)
