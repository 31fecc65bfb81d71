use Rattle.std.proofs.Common.{◌≡◌, Bool, List, ℕ, sym, ◌∙◌, subst}
use Rattle.bit_blocks.specs.declared.block.merge.Merge.{Merge, TheVariants.{Union, Intersection, Difference, Symmetric}}
use Rattle.set_algebra.specs.Sets.{IsAscending, elements, merge_of_sets}
use Rattle.bit_set.{specs.Walk.{AdvancesByEach, AdvancesWithBound}, proofs.WalkLaws.{walked_out, out}}
use Rattle.set_algebra.proofs.{SetLemmas.IsAscending-elements, AlgebraLemmas.IsAscending-merge_of_sets}
use Rattle.bit_set.proofs.laws.whole_walks_ascend.Goals as goal

-- items that are what two sets become
merged_ascend : (merge : Merge) (a b : List Bool) (left items : List ℕ) → left ≡ merge_of_sets merge (elements a) (elements b) → items ≡ left → IsAscending items
merged_ascend merge a b left items is all = subst IsAscending (sym (all ∙ is)) (IsAscending-merge_of_sets merge (elements a) (elements b) (IsAscending-elements a))

pub returns : goal.returns
returns g c =
    let by_each = out g.B.BitBlock.width (λ walk. walk) (AdvancesByEach g.B.BitBlock.width) g.met.B.BitBlock.width_law.positive (λ s t r step. step) in
    let by_both = out g.B.BitBlock.width (λ it. it.walk) (AdvancesWithBound g.B.BitBlock.width) g.met.B.BitBlock.width_law.positive (λ s t r step. step.walk) in
    record {
      iter = λ a s t items is run. subst IsAscending (sym ((walked_out g.B.BitBlock.width s t items run).all ∙ is)) (IsAscending-elements a);
      union = λ a b s t items is run. merged_ascend Union a b s.left items is (by_each s t items run).all;
      intersection = λ a b s t items is run. merged_ascend Intersection a b s.walk.left items is (by_both s t items run).all;
      difference = λ a b s t items is run. merged_ascend Difference a b s.left items is (by_each s t items run).all;
      symmetric_difference = λ a b s t items is run. merged_ascend Symmetric a b s.left items is (by_each s t items run).all;
    }
