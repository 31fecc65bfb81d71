use Rattle.std.proofs.Common.{◌∙◌, ◌||◌, length, map, sym, ap, arith}
use Rattle.bit_blocks.{specs.{declared.block.merge.Merge.TheVariants.Union, BlockMerges.{except_at, HasMerged}, Storage.is_used}, proofs.BlockMergeLemmas.{merged_past_stay, used_of_union}}
use Rattle.bit_words.proofs.SummaryMergeLemmas.{used_with_others}
use Rattle.bit_words.proofs.summary.differences.unite_long_from.{Given.Over, Goals.After-unite_except}
use Rattle.bit_words.proofs.summary.differences.unite_long_from.Goals as goal

-- all blocks, with those that stayed
merged : (g : Over) (c : After-unite_except g)
    → HasMerged Union g.B.BitBlock.width g.B.BitBlock.number g.B.BitBlock.is_block 0 (length c.args.blocks.now)
    (except_at (map g.B.BitBlock.number c.args.others.now)
    (map g.B.BitBlock.number c.args.except.now)) c.args.blocks.now c.unite_except.new.blocks
merged g c = merged_past_stay _ _ _ _ c.args.start (length c.args.blocks.now) _ _ _ (omega (arith, c.requires.from, c.requires.can.fewer)) c.requires.stay c.unite_except.ensures

pub returns-clause-has : goal.returns-clause-has
returns-clause-has g c = merged g (goal.at.returns-clause-has g c).After-unite_except

pub follow_others-requires-clause-kept : goal.follow_others-requires-clause-kept
follow_others-requires-clause-kept g c = λ k also.
    let here = (goal.at.follow_others-requires-clause-kept g c).After-unite_except in
    used_of_union g.B.BitBlock.width g.B.BitBlock.number _ _ _ _ c.args.blocks.now _
    (λ x is. (g.met.B.BitBlock.number_law x is).0) c.requires.can.each (merged g here) k
    (λ h. sym (c.requires.summary.digit k) ∙ also h)
    ∙ sym (c.requires.summary.digit k)

pub follow_others-requires-clause-united : goal.follow_others-requires-clause-united
follow_others-requires-clause-united g c = λ k none.
    let here = (goal.at.follow_others-requires-clause-united g c).After-unite_except in
    used_with_others g.B.BitBlock.width g.B.BitBlock.number _ _ c.args.blocks.now c.args.others.now _
    (λ x is. (g.met.B.BitBlock.number_law x is).0) c.requires.can.each c.requires.can.others c.requires.can.fewer
    (merged g here) k none
    ∙ sym (ap (λ a. a || is_used (map g.B.BitBlock.number c.args.others.now) k) (c.requires.summary.digit k))
