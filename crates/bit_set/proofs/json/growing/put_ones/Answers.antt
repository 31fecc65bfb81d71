use Rattle.std.proofs.{Common.{◌+◌, ◌∙◌, ◌<◌, [], ap, length, refl, sym, arith}, lemmas.Bool.not-false}
use Rattle.bit_set.proofs.{IndexLemmas.indexes-lowest, FilledLemmas.{put_all, put_nothing, put_lowest, lowest_is_one}, json.growing.put_ones.Goals.After-take_lowest_one-lowest}
use Rattle.bit_set.proofs.json.growing.put_ones.Goals as goal

-- the index of the one that was taken is within the list
inside : (g : _) (c : After-take_lowest_one-lowest g) → c.args.index + c.take_lowest_one-lowest.result < length c.loop-block.bits.values
inside g c =
    let taken = c.take_lowest_one-lowest.ensures in
    let put = c.loop-block.invariant.put in
    omega (arith, c.requires.within _ taken.within (lowest_is_one _ _ _ _ _ _ _ put taken.lowest taken.within), put.long)

pub loop-block-init : goal.loop-block-init
loop-block-init g c = record { of_block = c.requires.of_block; put = put_nothing _ _ _ c.args.bits.now.values c.requires.falses; capacity = refl }

pub loop-block-smaller : goal.loop-block-smaller
loop-block-smaller g c =
    let taken = c.take_lowest_one-lowest.ensures in
    omega (arith, ap length (indexes-lowest g.B.BitBlock.width 0 _ _ _ [] taken.lowest taken.within taken.cleared))

pub loop-block-preserved : goal.loop-block-preserved
loop-block-preserved g c =
    let taken = c.take_lowest_one-lowest.ensures in
    let at = inside g (goal.at.loop-block-preserved g c).After-take_lowest_one-lowest in
    record {
      of_block = taken.of_block;
      put = rw c.set.ensures.values (put_lowest _ _ _ _ _ _ _ _ c.loop-block.invariant.put taken.lowest taken.within taken.cleared at);
      capacity = c.set.ensures.capacity ∙ c.loop-block.invariant.capacity;
    }

pub set-requires : goal.set-requires
set-requires g c = inside g (goal.at.set-requires g c).After-take_lowest_one-lowest

pub overflow_add-index : goal.overflow_add-index
overflow_add-index g c = omega (arith, inside g (goal.at.overflow_add-index g c).After-take_lowest_one-lowest, c.loop-block.invariant.put.long, c.requires.counted)

pub take_lowest_one-lowest-requires : goal.take_lowest_one-lowest-requires
take_lowest_one-lowest-requires g c =
    let same = g.met.B.BitBlock.eq_law c.loop-block.block c.zero.result c.loop-block.invariant.of_block c.zero.ensures.of_block in
    record { of_block = c.loop-block.invariant.of_block; not_zero = grind arith }

pub returns : goal.returns
returns g c =
    let same = g.met.B.BitBlock.eq_law c.loop-block.block c.zero.result c.loop-block.invariant.of_block c.zero.ensures.of_block in
    let none = same.0 (not-false _ (sym c.ne.ensures ∙ c.loop-block-test.false)) ∙ c.zero.ensures.of_number in
    let put = c.loop-block.invariant.put in
    record { values = put_all _ _ _ _ _ _ put none; others = put.others; size = record { long = put.long; capacity = c.loop-block.invariant.capacity } }
