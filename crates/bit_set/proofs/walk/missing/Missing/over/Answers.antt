use Rattle.std.proofs.Common.{◌≡◌, ◌-◌, ◌*◌, ◌/◌, ◌&&◌, nat_le, ap, ap₂, ◌∙◌}
use Rattle.bit_blocks.specs.Digits.{is_one}
use Rattle.bit_set.{proofs.{MissingLemmas.{BeginsMissing, begins_missing}, walk.missing.Missing.over.Goals.After-clear_below}}
use Rattle.bit_set.proofs.walk.missing.Missing.over.Goals as goal

-- the walk as it is made
begun : (g : _) (c : After-clear_below g) → BeginsMissing (g.B.BitBlock.is_block c.clear_below.result) g.B.BitBlock.width
    (c.min-from.result / c.bits.result * c.bits-2.result) (g.B.BitBlock.number c.clear_below.result) c.args.start c.args.end c.args.bits.now.values
begun g c =
    let w = g.B.BitBlock.width in
    let k = c.min-from.result / c.bits.result in
    let at : k * c.bits-2.result ≡ k * w = ap (λ n. k * n) c.bits-2.ensures in
    begins_missing _ w (k * c.bits-2.result) k _ _ c.args.start c.args.end c.args.bits.now.values g.met.B.BitBlock.width_law.positive c.clear_below.ensures.of_block
    (ap₂ (λ a n. a / n) c.min-from.ensures c.bits.ensures) at
    (λ j within. c.clear_below.ensures.digits j within ∙ ap (λ a. nat_le (a - k * c.bits-2.result) j && is_one (g.B.BitBlock.number c.zeros_in_block.result) j) c.min-from.ensures)
    c.zeros_in_block.ensures.digits c.ranges.end.fits

pub invariant_of-result : goal.invariant_of-result
invariant_of-result g c = (begun g c).walk

pub returns : goal.returns
returns g c = (begun g c).start
