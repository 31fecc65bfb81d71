use Rattle.std.proofs.Common.{length, ap, ◌∙◌}
use Rattle.bit_set.{specs.Missing.PassesMembers, proofs.WalkLaws.{all_left, none_after, walks-agree}}
use Rattle.bit_set.proofs.laws.ranges.walks_over_missing.Goals as goal

pub returns : goal.returns
returns g c =
    let next = PassesMembers g.B.BitBlock.width in
    record {
      rest = all_left (λ walk. walk.left) next (λ s t r step. step.item);
      whole = λ values a b s t items start run. (all_left (λ walk. walk.left) next (λ u v r step. step.item) s t items run).0 ∙ start.left;
      for_good = none_after (λ walk. walk.left) next (λ s t r step. step.item);
      count = λ s items run. ap length (all_left (λ walk. walk.left) next (λ u v r step. step.item) s run.0 items run.1).0;
      agree = walks-agree (λ walk. walk.left) _ (λ walk. walk.left) _ (λ s u r step. step.item) (λ s u r step. step.item);
    }
