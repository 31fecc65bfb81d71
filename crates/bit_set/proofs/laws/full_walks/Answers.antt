use Rattle.bit_set.{specs.Walk.{AdvancesByEach, AdvancesWithBound}, proofs.WalkLaws.{full_walk, full_walk_by_each}}
use Rattle.bit_set.proofs.laws.full_walks.Goals as goal

pub returns : goal.returns
returns g c =
    let by_each = full_walk_by_each g.B.BitBlock.width (λ walk. walk) (AdvancesByEach g.B.BitBlock.width) g.met.B.BitBlock.width_law.positive (λ s t r step. step) in
    record {
      iter = full_walk g.B.BitBlock.width;
      union = by_each;
      intersection = full_walk_by_each g.B.BitBlock.width (λ it. it.walk) (AdvancesWithBound g.B.BitBlock.width) g.met.B.BitBlock.width_law.positive (λ s t r step. step.walk);
      difference = by_each;
      symmetric_difference = by_each;
    }
