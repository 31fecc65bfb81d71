use Rattle.bit_blocks.proofs.CompareLemmas.{intersection_of_blocks, shorter_end}
use Rattle.bit_blocks.proofs.packed.inclusion.intersection_is_zero.Goals as goal

pub returns : goal.returns
returns g c =
    let both = intersection_of_blocks _ _ _ _ g.met.B.BitBlock.width_law.positive (shorter_end _ _ _ _ c.min-count.ensures) in
    let made = c.first_merge_to_zero.ensures in
    record { zero = (λ yes. both.0 (made.0 yes), λ falses. made.1 (both.1 falses)) }
