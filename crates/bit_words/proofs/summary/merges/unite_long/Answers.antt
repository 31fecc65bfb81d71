use Rattle.std.proofs.Common.{◌≤◌, ◌∙◌, sym, length, arith}
use Rattle.bit_blocks.proofs.{BitsLemmas.blocks_for-le, BlockMergeLemmas.{merged_past_stay, merges_of_values}}
use Rattle.bit_blocks.specs.declared.block.merge.Merge.TheVariants.{Union}
use Rattle.bit_words.proofs.{SummaryLemmas.summary_of_digits, SummaryMergeLemmas.union_use, summary.merges.unite_long.{Given.Over, Goals.After-merge_from}}
use Rattle.bit_words.proofs.summary.merges.unite_long.Goals as goal

-- the other summary has no more blocks
fewer : (g : Over) (c : After-merge_from g) → length c.args.other_summary.now ≤ length c.args.summary.now
fewer g c =
    let le = blocks_for-le g.B.BitBlock.width (length c.args.others.now) (length c.args.blocks.now) g.met.B.BitBlock.width_law.positive c.requires.can.fewer in
    omega (arith, le, c.requires.summary.packed.count, c.requires.other_summary.packed.count)

pub merge_from-requires-2-clause-can : goal.merge_from-requires-2-clause-can
merge_from-requires-2-clause-can g c = record {
  fewer = fewer g (goal.at.merge_from-requires-2-clause-can g c).After-merge_from;
  each = c.requires.summary.packed.each;
  others = c.requires.other_summary.packed.each;
}

pub returns-clause-summary : goal.returns-clause-summary
returns-clause-summary g c =
    let pos = g.met.B.BitBlock.width_law.positive in
    let w = g.B.BitBlock.width in
    let f = g.B.BitBlock.number in
    let own = merged_past_stay _ _ _ _ c.args.start (length c.args.blocks.now) _ _ _ (omega (arith, c.requires.from, c.requires.can.fewer)) c.requires.stay c.merge_from.ensures.has in
    let made = c.merge_from-2.ensures.has in
    let each = merges_of_values Union w f _ c.args.blocks.now c.args.others.now _ pos c.requires.can.fewer (rw c.requires.union at own) in
    let summary = merges_of_values Union w f _ c.args.summary.now c.args.other_summary.now _ pos (fewer g (goal.at.returns-clause-summary g c).After-merge_from) (rw c.requires.union at made) in
    summary_of_digits w f _ c.merge_from.new.blocks c.merge_from-2.new.blocks made.each
    (rw own.len (omega (arith, made.len, c.requires.summary.packed.count)))
    (omega (arith, own.len, c.requires.summary.packed.fits)) (λ k.
    summary k
    ∙ sym (union_use w k f g.B.BitBlock.is_block c.args.blocks.now c.args.others.now c.merge_from.new.blocks
    c.args.summary.now c.args.other_summary.now
    (λ x is. (g.met.B.BitBlock.number_law x is).0) c.requires.can.each c.requires.can.others own.each c.requires.summary
    c.requires.other_summary each))

pub returns-clause-has : goal.returns-clause-has
returns-clause-has g c =
    merged_past_stay _ _ _ _ c.args.start (length c.args.blocks.now) _ _ _ (omega (arith, c.requires.from, c.requires.can.fewer)) c.requires.stay c.merge_from.ensures.has
