use Rattle.std.proofs.Common.{◌+◌, ap, ◌∙◌, arith}
use Rattle.set_algebra.proofs.SetLemmas.{AscendsFrom-lower}
use Rattle.bit_set.proofs.WalkLaws.{pulled_at_most, pulled_sparsely, pulled_whole, summary_pulled, has-blocks_past, AscendsFrom-blocks_past, walked_out}
use Rattle.bit_set.specs.Walk.{IsAtBlockOf, IsAtFirstBlock, blocks_past}
use Rattle.bit_set.proofs.laws.sparse_walks.Goals as goal

pub returns : goal.returns
unfolding IsAtFirstBlock IsAtBlockOf
returns g c =
    let w = g.B.BitBlock.width in
    let pos = g.met.B.BitBlock.width_law.positive in
    record {
      rest = pulled_sparsely w;
      at_most = λ s t items. pulled_at_most w s t items pos;
      whole = pulled_whole w;
      summary = λ values s t items start run. summary_pulled w s t items run ∙ ap (λ n. n + 1) start.at.summary;
      whole_from = λ values from s t items start run.
          let pulls = pulled_sparsely w s t items run in
          ((walked_out w s t items run).all ∙ start.left, omega (arith, pulls, start.at.nonzero, start.at.pulls));
      members = λ k q numbers. has-blocks_past w k 0 numbers q pos;
      ascend = λ k numbers. AscendsFrom-lower (k + 1) 0 (blocks_past w k numbers) (omega arith) (AscendsFrom-blocks_past w k numbers);
    }
