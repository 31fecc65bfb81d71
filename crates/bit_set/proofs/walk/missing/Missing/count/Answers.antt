use Rattle.std.proofs.Common.{◌≡◌, ◌+◌, ◌-◌, ◌≤◌, ◌<◌, ◌^◌, count_ones, length, ap, ◌∙◌, arith}
use Rattle.std.specs.List.{count_by}
use Rattle.bit_blocks.specs.Ranges.{values_in_range}
use Rattle.set_algebra.specs.Sets.{elements}
use Rattle.bit_set.specs.Missing.{missing_values}
use Rattle.bit_set.proofs.{IndexLemmas.length-indexes, MissingLemmas.{count-missing, length-missing}, walk.missing.Missing.count.Given.Over, walk.missing.Missing.count.Goals.After-self}
use Rattle.bit_set.proofs.walk.missing.Missing.count.Goals as goal

-- the ones of the block in hand and the numbers past it are all, and can be counted
all : (g : Over) (c : After-self g) →
    let it = c.self.inside in
    (count_ones (g.B.BitBlock.number it.block) + length (elements (missing_values (it.index + g.B.BitBlock.width) it.end it.bits.now.values)) ≡ length c.args.self.left)
    × (length c.args.self.left ≤ it.end - it.index)
    × (it.end < 2 ^ 64)
    × (it.index ≤ it.end)
all g c =
    let it = c.self.inside in
    let w = g.B.BitBlock.width in
    let left = ap (λ walk. length walk.left) c.self.view_is in
    let many = length-indexes w it.index (g.B.BitBlock.number it.block) (missing_values (it.index + w) it.end it.bits.now.values) (g.met.B.BitBlock.number_law it.block c.self.invariant.in_hand).0 in
    let most = length-missing _ w it.index (g.B.BitBlock.number it.block) it.end it.bits.now.values c.self.invariant in
    (omega (arith, many, left), omega (arith, most, left), c.self.invariant.fits, c.self.invariant.inside)

pub returns-then-self-bits : goal.returns-then-self-bits
returns-then-self-bits g c =
    let it = c.self.inside in
    let w = g.B.BitBlock.width in
    let sums = all g (goal.at.returns-then-self-bits g c).After-self in
    omega (arith, sums, c.bits.ensures, c.if-self-bits.true, c.count_ones-in_hand.ensures, count-missing (it.index + w) it.end it.bits.now.values)

pub overflow_add-result : goal.overflow_add-result
overflow_add-result g c =
    let it = c.self.inside in
    let w = g.B.BitBlock.width in
    let sums = all g (goal.at.overflow_add-result g c).After-self in
    let members = c.count_ones_in_range-members.ensures ∙ ap (λ n. count_by (λ value. value) (values_in_range (it.index + n) it.end it.bits.now.values)) c.bits-2.ensures in
    omega (arith, sums, c.bits-2.ensures, c.count_ones-in_hand.ensures, members, count-missing (it.index + w) it.end it.bits.now.values)

pub returns : goal.returns
returns g c =
    let it = c.self.inside in
    let w = g.B.BitBlock.width in
    let sums = all g (goal.at.returns g c).After-self in
    let members = c.count_ones_in_range-members.ensures ∙ ap (λ n. count_by (λ value. value) (values_in_range (it.index + n) it.end it.bits.now.values)) c.bits-2.ensures in
    omega (arith, sums, c.bits-2.ensures, c.count_ones-in_hand.ensures, members, count-missing (it.index + w) it.end it.bits.now.values)
