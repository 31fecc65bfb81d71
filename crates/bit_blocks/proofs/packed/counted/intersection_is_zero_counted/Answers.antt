use Rattle.std.proofs.Common.{arith}
use Rattle.bit_blocks.proofs.CompareLemmas.{first_is_within, intersection_of_blocks, shorter_end}
use Rattle.bit_blocks.proofs.packed.counted.intersection_is_zero_counted.Goals as goal

pub returns : goal.returns
returns g c =
    let ends = shorter_end _ _ _ _ c.min-count.ensures in
    let both = intersection_of_blocks _ _ _ _ g.met.B.BitBlock.width_law.positive ends in
    let made = c.first_merge_to_zero.ensures in
    record {
      zero = (λ yes. both.0 (made.zero.0 yes), λ falses. made.zero.1 (both.1 falses));
      steps = record {
        stops = λ i first. made.steps.stops i (first, first_is_within _ _ _ _ i ends first);
        fewest = made.steps.fewest;
        at_most = omega (arith, made.steps.at_most, c.min-count.ensures);
        all = λ yes. let exact = made.steps.all yes in omega (arith, exact, c.min-count.ensures);
      };
    }
