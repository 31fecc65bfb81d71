use Rattle.std.proofs.Common.{length, ap, ◌+◌, ◌∙◌}
use Rattle.bit_words.proofs.SourceLemmas.{walked}
use Rattle.bit_words.proofs.laws.walk_of_blocks.Goals as goal

pub returns : goal.returns
returns g c = record {
  items = λ s t items walk. (walked s t items walk).0;
  pulls = λ s t items walk. (walked s t items walk).1 ∙ ap (λ xs. s.pulls + length xs + 1) (walked s t items walk).0;
}
