use Rattle.std.proofs.Common.{◌∙◌, true, false, refl, ap}
use Rattle.bit_blocks.{specs.{Digits.is_one, Merges.merge_of_values}, proofs.{CompareLemmas.digit_from_zero, MergeLemmas.merge_of_values-none}}
use Rattle.bit_words.proofs.MergedOnesLemmas.{kept_one}
use Rattle.bit_words.proofs.summary.counts.keeps_first.Goals as goal

pub returns : goal.returns
returns g c =
    let m = g.O.Operation.merge in
    c.is_nonzero.ensures
    ∙ kept_one (λ x. merge_of_values m x false) (merge_of_values m true false) g.B.BitBlock.width _ (g.B.BitBlock.number c.one.result) g.met.B.BitBlock.width_law.positive
    (g.met.B.BitBlock.number_law _ c.of_blocks.ensures.of_block).0 c.one.ensures.of_number (merge_of_values-none m) refl (λ j index.
    c.of_blocks.ensures.digits j index
    ∙ ap (merge_of_values m (is_one (g.B.BitBlock.number c.one.result) j)) (digit_from_zero (g.B.BitBlock.number c.zero.result) j c.zero.ensures.of_number))
