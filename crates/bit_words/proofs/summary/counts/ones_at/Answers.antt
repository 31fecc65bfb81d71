use Rattle.std.proofs.Common.{◌∙◌, ap₂}
use Rattle.bit_blocks.specs.{Digits.is_one, Merges.merge_of_values}
use Rattle.bit_words.proofs.MergedOnesLemmas.{merged_block}
use Rattle.bit_words.proofs.summary.counts.ones_at.Goals as goal

pub returns : goal.returns
returns g c =
    c.count_ones.ensures
    ∙ merged_block g.O.Operation.merge g.B.BitBlock.width _ _ c.args.k (g.B.BitBlock.number c.of_blocks.result)
    (g.met.B.BitBlock.number_law c.of_blocks.result c.of_blocks.ensures.of_block).0
    (λ j index.
    c.of_blocks.ensures.digits j index
    ∙ ap₂ (λ x y. merge_of_values g.O.Operation.merge (is_one x j) (is_one y j)) c.block_or_zero.ensures.of_number c.block_or_zero-2.ensures.of_number)
