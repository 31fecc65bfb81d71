use Rattle.std.proofs.{Common.{◌∙◌, map, sym}, lemmas.Bool.true≢false}
use Rattle.bit_blocks.specs.BlockMerges.{AreKept}
use Rattle.bit_words.proofs.FusedLemmas.{become_in_two, kept_in_two}
use Rattle.bit_words.proofs.summary.differences.become_sparse.{Given.Over, Goals.After-change_long-gained}
use Rattle.bit_words.proofs.summary.differences.become_sparse.Goals as goal

-- a list that stays in all stays in each of the two merges
kept : (g : Over) (c : After-change_long-gained g)
    → AreKept (map g.B.BitBlock.number c.args.blocks.now) (map g.B.BitBlock.number c.change_long-gained.new.blocks)
    → AreKept (map g.B.BitBlock.number c.args.blocks.now) (map g.B.BitBlock.number c.change_long-lost.new.blocks)
    × AreKept (map g.B.BitBlock.number c.change_long-lost.new.blocks) (map g.B.BitBlock.number c.change_long-gained.new.blocks)
kept g c = kept_in_two _ _ _ _ _ _ _ (λ x is. (g.met.B.BitBlock.number_law x is).0) c.requires.can.each c.change_long-lost.ensures.has c.change_long-gained.ensures.has

pub returns-then-lost-clause-has : goal.returns-then-lost-clause-has
returns-then-lost-clause-has g c = become_in_two _ _ _ _ _ _ _ c.change_long-lost.ensures.has c.change_long-gained.ensures.has

pub returns-else-lost-clause-has : goal.returns-else-lost-clause-has
returns-else-lost-clause-has g c = become_in_two _ _ _ _ _ _ _ c.change_long-lost.ensures.has c.change_long-gained.ensures.has

pub returns-then-lost-clause-kept : goal.returns-then-lost-clause-kept
returns-then-lost-clause-kept g c =
    let here = (goal.at.returns-then-lost-clause-kept g c).After-change_long-gained in
    (λ no. absurd (true≢false (sym c.if-lost.true ∙ no)), λ same. c.change_long-lost.ensures.kept.1 (kept g here same).0)

pub returns-else-lost-clause-kept : goal.returns-else-lost-clause-kept
returns-else-lost-clause-kept g c =
    let here = (goal.at.returns-else-lost-clause-kept g c).After-change_long-gained in
    (λ no k. c.change_long-gained.ensures.kept.0 no k ∙ c.change_long-lost.ensures.kept.0 c.if-lost.false k, λ same. c.change_long-gained.ensures.kept.1 (kept g here same).1)
