use Rattle.std.proofs.Common.{◌+◌, ◌*◌, ◌/◌, ◌<◌, ◌≤◌, ◌^◌, length, refl, arith, rules}
use Rattle.bit_blocks.proofs.{ByteLemmas.{whole_bytes, first_byte_below, part-values}, packed.bytes.bytes_of_block.{Given.Over, Goals.After-bits-step}}
use Rattle.bit_blocks.proofs.packed.bytes.bytes_of_block.Goals as goal

below : (g : Over) (c : After-bits-step g) → c.args.k * (c.bits-step.result / 8) < length c.args.bytes.now
below g c = first_byte_below _ _ _ _ g.met.B.BitBlock.width_law c.bits-step.ensures c.requires.in_bounds

pub overflow_add-start : goal.overflow_add-start
overflow_add-start g c =
    let small : c.args.k * (c.bits-step.result / 8) + c.bits-step.result / 8 < 2 ^ 64 = omega (arith, below g (goal.at.overflow_add-start g c).After-bits-step) in search rules

pub slice_bounds-result-count : goal.slice_bounds-result-count
slice_bounds-result-count g c = omega (arith, below g (goal.at.slice_bounds-result-count g c).After-bits-step)

pub slice_bounds-result-start : goal.slice_bounds-result-start
slice_bounds-result-start g c =
    let order : c.args.k * (c.bits-step.result / 8) ≤ c.min-end.result = omega (arith, below g (goal.at.slice_bounds-result-start g c).After-bits-step) in search rules

pub returns-clause-values : goal.returns-clause-values
returns-clause-values g c = λ place.
    part-values _ _ _ place _ _ _ (whole_bytes _ _ g.met.B.BitBlock.width_law c.bits-step.ensures) refl c.min-end.ensures (below g (goal.at.returns-clause-values g c).After-bits-step)
