use Rattle.std.proofs.lemmas.Bool.{false≢true}
use Rattle.bit_blocks.specs.declared.block.merge.Merge.TheVariants.{Difference}
use Rattle.bit_words.proofs.MergedOnesLemmas.{false_in_fronts, none_in_fronts}
use Rattle.bit_words.proofs.summary.inclusion.difference_by_summaries.Goals as goal

pub returns-then-not-difference_is_zero : goal.returns-then-not-difference_is_zero
returns-then-not-difference_is_zero g c = (
  λ yes. absurd (false≢true yes),
  λ falses.
      let w = g.B.BitBlock.width in
      let fronts = false_in_fronts g.B.BitBlock.number Difference w w c.args.blocks.now c.args.others.now _ _ c.first_blocks.ensures.first c.first_blocks-2.ensures.first falses in
      let yes = c.difference_is_zero-2.ensures.zero.1 fronts in
      cc,
)

pub merge_is_zero-requires-clause-front : goal.merge_is_zero-requires-clause-front
merge_is_zero-requires-clause-front g c =
    let w = g.B.BitBlock.width in
    none_in_fronts g.B.BitBlock.number Difference w w c.args.blocks.now c.args.others.now _ _ g.met.B.BitBlock.width_law.positive c.first_blocks.ensures.first c.first_blocks-2.ensures.first (c.difference_is_zero-2.ensures.zero.0 cc)
