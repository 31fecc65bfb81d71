use Rattle.std.proofs.Common.{◌≡◌, ◌+◌, ◌<◌, ◌^◌, length, ap, arith}
use Rattle.set_algebra.specs.Sets.{elements}
use Rattle.bit_set.proofs.{IndexLemmas.length-indexes, walk.two_sets.TwoSets.count.Goals.After-count_ones}
use Rattle.bit_set.proofs.walk.two_sets.TwoSets.count.Goals as goal

-- the ones of the block in hand and those ahead are all, and can be counted
all : (g : _) (c : After-count_ones g) → (c.count_ones.result + length (elements c.self.inside.source.values) ≡ length c.args.self.left) × (length c.args.self.left < 2 ^ 64)
all g c =
    let it = c.self.inside in
    let left = ap (λ walk. length walk.left) c.self.view_is in
    let many = length-indexes g.B.BitBlock.width it.index (g.B.BitBlock.number it.block) it.source.values (g.met.B.BitBlock.number_law it.block c.self.invariant.in_hand).0 in
    (omega (arith, many, left, c.count_ones.ensures), omega (arith, left, c.self.invariant.can.count_fits))

pub count_ones-requires-2 : goal.count_ones-requires-2
count_ones-requires-2 g c = let most = all g (goal.at.count_ones-requires-2 g c).After-count_ones in omega (arith, most)

pub overflow_add-result : goal.overflow_add-result
overflow_add-result g c = let most = all g (goal.at.overflow_add-result g c).After-count_ones in omega (arith, most, c.count_ones-2.ensures)

pub returns : goal.returns
returns g c = let most = all g (goal.at.returns g c).After-count_ones in omega (arith, most, c.count_ones-2.ensures)
