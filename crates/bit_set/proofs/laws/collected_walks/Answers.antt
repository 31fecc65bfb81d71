use Rattle.set_algebra.proofs.SetLaws.{put_all-items}
use Rattle.bit_set.{specs.Walk.{AdvancesByEach, AdvancesWithBound}, proofs.WalkLaws.collected}
use Rattle.bit_blocks.specs.declared.block.merge.Merge.TheVariants.{Union, Intersection, Difference, Symmetric}
use Rattle.bit_set.proofs.laws.collected_walks.Goals as goal

pub returns : goal.returns
returns g c =
    let by_each = collected (λ walk. walk.left) (AdvancesByEach g.B.BitBlock.width) (λ s t r step. step.item) in
    record {
      set = put_all-items;
      union = by_each Union;
      intersection = collected (λ it. it.walk.left) (AdvancesWithBound g.B.BitBlock.width) (λ s t r step. step.walk.item) Intersection;
      difference = by_each Difference;
      symmetric_difference = by_each Symmetric;
    }
