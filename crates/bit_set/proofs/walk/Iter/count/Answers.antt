use Rattle.std.proofs.Common.{◌≡◌, ◌+◌, ◌<◌, ◌^◌, count_ones, length, ap, ◌∙◌, arith}
use Rattle.bit_words.specs.Nonzero.{ones_left}
use Rattle.bit_set.proofs.{LeftLemmas.ones_ahead, walk.Iter.count.Goals.After-self}
use Rattle.bit_set.proofs.walk.Iter.count.Goals as goal

-- the ones of the blocks in hand and those between them are all, and can be counted
all : (g : _) (c : After-self g)
    → (count_ones (g.B.BitBlock.number c.self.inside.block) + ones_left g.B.BitBlock.number c.self.inside.nonzero.left + count_ones (g.B.BitBlock.number c.self.inside.back) ≡ length c.args.self.left)
    × (length c.args.self.left < 2 ^ 64)
all g c =
    let left = ap (λ walk. length walk.left) c.self.view_is in (
      ones_ahead g.B.BitBlock.width g.B.BitBlock.number g.B.BitBlock.is_block (λ x is. (g.met.B.BitBlock.number_law x is).0) _ _ _ c.self.invariant ∙ left,
      omega (arith, left, c.self.invariant.count_fits),
    )

pub count_ones-requires-2 : goal.count_ones-requires-2
count_ones-requires-2 g c = let most = all g (goal.at.count_ones-requires-2 g c).After-self in omega (arith, most)

pub overflow_add-result : goal.overflow_add-result
overflow_add-result g c = let most = all g (goal.at.overflow_add-result g c).After-self in omega (arith, most, c.count_ones.ensures, c.count_ones-2.ensures)

pub overflow_add-result-2 : goal.overflow_add-result-2
overflow_add-result-2 g c = let most = all g (goal.at.overflow_add-result-2 g c).After-self in omega (arith, most, c.count_ones.ensures, c.count_ones-2.ensures, c.count_ones-3.ensures)

pub returns : goal.returns
returns g c = let most = all g (goal.at.returns g c).After-self in omega (arith, most, c.count_ones.ensures, c.count_ones-2.ensures, c.count_ones-3.ensures)
