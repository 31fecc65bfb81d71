use Rattle.std.proofs.Common.{◌+◌, ◌≤◌, length, ap, arith}
use Rattle.bit_words.specs.Nonzero.{Hand}
use Rattle.bit_set.{specs.Indexes.{IsSparseWalk, Passes, seen_of}, proofs.{LeftLemmas.ones_ahead, NthLemmas.all_passed, walk.Iter.pass_blocks.{Given.Over, Goals.After-skip_blocks}}}
use Rattle.bit_set.proofs.walk.Iter.pass_blocks.Goals as goal

-- what is left of the block in hand was passed, and the blocks past it
passed : (g : Over) (c : After-skip_blocks g) →
    let w = g.B.BitBlock.width in
    let new : Hand g.row.B.Denot = record { block = c.zero-self-inside.result; index = c.self.inside.index } in
    let back : Hand g.row.B.Denot = record { block = c.self.inside.back; index = c.self.inside.back_index } in
    IsSparseWalk w g.B.BitBlock.number g.B.BitBlock.is_block new c.skip_blocks.new.self back
    × (c.count_ones-ones.result + c.skip_blocks.result ≤ length c.args.self.now.left)
    × Passes w (c.count_ones-ones.result + c.skip_blocks.result) c.args.self.now (seen_of w g.B.BitBlock.number new c.skip_blocks.new.self back)
passed g c =
    let w = g.B.BitBlock.width in
    let zero = c.zero-self-inside in
    let (walk, there, passes) = all_passed w g.B.BitBlock.number g.B.BitBlock.is_block
    (λ x is. (g.met.B.BitBlock.number_law x is).0) _ _ _ _ zero.result c.skip_blocks.result c.self.invariant zero.ensures.of_block zero.ensures.of_number c.skip_blocks.ensures.skips in
    let left = ap (λ walk. length walk.left) c.self.view_is in
    (walk, omega (arith, there, left, c.count_ones-ones.ensures), rw (c.count_ones-ones.ensures, ← c.self.view_is) passes)

pub skip_blocks-requires : goal.skip_blocks-requires
skip_blocks-requires g c =
    let all = ones_ahead g.B.BitBlock.width g.B.BitBlock.number g.B.BitBlock.is_block (λ x is. (g.met.B.BitBlock.number_law x is).0) _ _ _ c.self.invariant in
    record { fits = omega (arith, all, c.self.invariant.count_fits) }

pub invariant_of-self : goal.invariant_of-self
invariant_of-self g c = (passed g (goal.at.invariant_of-self g c).After-skip_blocks).0

pub returns-clause-there : goal.returns-clause-there
returns-clause-there g c = (passed g (goal.at.returns-clause-there g c).After-skip_blocks).1

pub returns-clause-walk : goal.returns-clause-walk
returns-clause-walk g c = (passed g (goal.at.returns-clause-walk g c).After-skip_blocks).2
