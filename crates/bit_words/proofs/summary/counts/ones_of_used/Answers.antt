use Rattle.std.proofs.Common.{◌≡◌, ◌+◌, map, arith, sym, ◌∙◌}
use Rattle.std.proofs.lemmas.Bool.{not-false}
use Rattle.bit_words.{specs.MergedOnes.merged_ones, proofs.MergedOnesLemmas.{left_all, left_none, left_of, left_taken, still_left}}
use Rattle.bit_words.proofs.summary.counts.ones_of_used.Goals.{After-ones_at-ones}
use Rattle.bit_words.proofs.summary.counts.ones_of_used.Goals as goal

pub loop-rest-init : goal.loop-rest-init
loop-rest-init g c = record {
  of_block = c.requires.of_block;
  fits = c.requires.covers.fits;
  counted = let all = left_all _ _ _ _ _ _ c.requires.covers in omega (arith, all);
}

-- the block that is taken, and those that are left then
taken : (g : _) (c : After-ones_at-ones g) →
    let w = g.B.BitBlock.width in
    let ones = merged_ones g.O.Operation.merge w (map g.B.BitBlock.number c.args.blocks.now) (map g.B.BitBlock.number c.args.others.now) in
    let left = left_of (λ j. ones (c.args.start + j) (c.args.start + j + 1)) w in
    left (g.B.BitBlock.number c.loop-rest.rest) ≡ c.ones_at-ones.result + left (g.B.BitBlock.number c.take_lowest_one-index.new.block)
taken g c =
    let lowest = c.take_lowest_one-index.ensures in
    rw c.ones_at-ones.ensures (left_taken _ _ _ _ _ lowest.lowest lowest.within lowest.cleared)

pub overflow_add-ones : goal.overflow_add-ones
overflow_add-ones g c =
    let one = taken g (goal.at.overflow_add-ones g c).After-ones_at-ones in
    omega (arith, one, c.loop-rest.invariant.counted, c.requires.fits)

pub loop-rest-smaller : goal.loop-rest-smaller
loop-rest-smaller g c =
    let lowest = c.take_lowest_one-index.ensures in
    let one = left_taken (λ _. 1) _ _ _ _ lowest.lowest lowest.within lowest.cleared in
    omega (arith, one)

pub loop-rest-preserved : goal.loop-rest-preserved
loop-rest-preserved g c =
    let lowest = c.take_lowest_one-index.ensures in
    let one = taken g (goal.at.loop-rest-preserved g c).After-ones_at-ones in
    record {
      of_block = lowest.of_block;
      fits = λ j within left. c.loop-rest.invariant.fits j within (still_left _ _ _ _ _ lowest.cleared within left);
      counted = omega (arith, one, c.loop-rest.invariant.counted);
    }

pub returns : goal.returns
returns g c =
    let w = g.B.BitBlock.width in
    let same = g.met.B.BitBlock.eq_law c.loop-rest.rest c.zero.result c.loop-rest.invariant.of_block c.zero.ensures.of_block in
    let none = same.0 (not-false _ (sym c.ne.ensures ∙ c.loop-rest-test.false)) ∙ c.zero.ensures.of_number in
    let ended = left_none
    (λ j. merged_ones g.O.Operation.merge w (map g.B.BitBlock.number c.args.blocks.now) (map g.B.BitBlock.number c.args.others.now) (c.args.start + j) (c.args.start + j + 1)) w _ none in
    omega (arith, c.loop-rest.invariant.counted, ended)
