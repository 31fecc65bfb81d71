use Rattle.bit_set.{specs.Walk.AdvancesByEach, proofs.WalkLaws.walks-agree}
use Rattle.bit_set.proofs.laws.walks_agree.Goals as goal

pub returns : goal.returns
returns g c =
    let by_each = walks-agree (λ walk. walk.left) (AdvancesByEach g.A.BitBlock.width) (λ walk. walk.left) (AdvancesByEach g.B.BitBlock.width) (λ s u r step. step.item) (λ s u r step. step.item) in
    record {
      iter = walks-agree (λ walk. walk.left) _ (λ walk. walk.left) _ (λ s u r step. step.item) (λ s u r step. step.item);
      union = by_each;
      intersection = walks-agree (λ it. it.walk.left) _ (λ it. it.walk.left) _ (λ s u r step. step.walk.item) (λ s u r step. step.walk.item);
      difference = by_each;
      symmetric_difference = by_each;
    }
