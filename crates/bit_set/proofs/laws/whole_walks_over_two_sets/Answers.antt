use Rattle.bit_set.{specs.Walk.{AdvancesByEach, AdvancesWithBound}, proofs.WalkLaws.over_two}
use Rattle.bit_blocks.specs.declared.block.merge.Merge.TheVariants.{Union, Intersection, Difference, Symmetric}
use Rattle.bit_set.proofs.laws.whole_walks_over_two_sets.Goals as goal

pub returns : goal.returns
returns g c =
    let by_each = over_two g.B.BitBlock.width (λ walk. walk) (AdvancesByEach g.B.BitBlock.width) g.met.B.BitBlock.width_law.positive (λ s t r step. step) in
    record {
      union = by_each Union;
      intersection = over_two g.B.BitBlock.width (λ it. it.walk) (AdvancesWithBound g.B.BitBlock.width) g.met.B.BitBlock.width_law.positive (λ s t r step. step.walk) Intersection;
      difference = by_each Difference;
      symmetric_difference = by_each Symmetric;
    }
