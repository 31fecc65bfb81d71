use Rattle.std.proofs.Common.{◌+◌, ◌∙◌, map, sym}
use Rattle.bit_blocks.proofs.UseLemmas.{zero_from_unused}
use Rattle.bit_words.{specs.MergedOnes.merged_ones, proofs.MergedOnesLemmas.{left_all, left_none}}
use Rattle.bit_words.proofs.summary.counts.ones_of_chunk.Goals as goal

pub returns-then-not-is_nonzero : goal.returns-then-not-is_nonzero
returns-then-not-is_nonzero g c =
    let w = g.B.BitBlock.width in
    let m = g.O.Operation.merge in
    let ms = map g.B.BitBlock.number c.args.blocks.now in
    let ns = map g.B.BitBlock.number c.args.others.now in
    let none = zero_from_unused _ (sym c.is_nonzero.ensures ∙ c.if-not-is_nonzero.true) in
    sym (left_none (λ j. merged_ones m w ms ns (c.args.start + j) (c.args.start + j + 1)) w _ none) ∙ left_all m w ms ns c.args.start _ c.requires.covers
