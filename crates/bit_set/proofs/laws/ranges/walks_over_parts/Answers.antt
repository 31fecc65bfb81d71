use Rattle.std.proofs.Common.{sym, ◌∙◌, arith}
use Rattle.set_algebra.proofs.SplitLemmas.{parts_of_sets}
use Rattle.bit_set.{proofs.WalkLaws.{both_ends, pulled_sparsely, walked_out}, specs.Walk.IsAtBlocksOf}
use Rattle.bit_set.proofs.laws.ranges.walks_over_parts.Goals as goal

pub returns : goal.returns
unfolding IsAtBlocksOf
returns g c =
    let w = g.B.BitBlock.width in
    record {
      joined = parts_of_sets;
      whole = λ values a b s t items start run.
          let pulls = pulled_sparsely w s t items run in
          ((walked_out w s t items run).all ∙ start.left, omega (arith, pulls, start.at.pulls));
      both_ends = λ values a b s t u calls front start run end.
          let all = both_ends w s t u calls front run end in
          (sym all.0 ∙ start.left, omega (arith, all.2, start.at.pulls));
    }
