use Rattle.std.proofs.Common.{◌∙◌, ap, not}
use Rattle.bit_words.proofs.ComparedLemmas.{from_none, none_since}
use Rattle.bit_words.proofs.summary.comparing.same_by_summaries.Goals as goal

pub returns : goal.returns
returns g c = (
  λ none. from_none c.mismatch_by_summaries.result _ _ (c.is_none.ensures ∙ ap not none) c.mismatch_by_summaries.ensures,
  λ same. none_since c.mismatch_by_summaries.result _ _ _ _ c.is_none.ensures c.mismatch_by_summaries.ensures same,
)
