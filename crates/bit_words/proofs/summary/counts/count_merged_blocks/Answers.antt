use Rattle.std.proofs.Common.{◌≡◌, ◌+◌, ◌∙◌, ℕ, max, length, map, ap, arith}
use Rattle.bit_words.{specs.MergedOnes.merged_ones, proofs.MergedOnesLemmas.merged_parts}
use Rattle.bit_words.proofs.summary.counts.count_merged_blocks.Goals.{After-min-both}
use Rattle.bit_words.proofs.summary.counts.count_merged_blocks.Goals as goal

-- those from one block to another
abbrev ones : (g : _) (c : After-min-both g) → ℕ → ℕ → ℕ
ones g c = merged_ones g.O.Operation.merge g.B.BitBlock.width (map g.B.BitBlock.number c.args.blocks.now) (map g.B.BitBlock.number c.args.others.now)

-- those of the blocks that both have, and of the others
parts : (g : _) (c : After-min-both g) → let most = max (length c.args.blocks.now) (length c.args.others.now) in ones g c 0 most ≡ ones g c 0 (0 + c.min-both.result) + ones g c c.min-both.result most
parts g c =
    let both = c.min-both.result in
    let most = max (length c.args.blocks.now) (length c.args.others.now) in
    merged_parts g.O.Operation.merge g.B.BitBlock.width _ _ 0 both most (omega arith) (omega (arith, c.min-both.ensures))
    ∙ ap (λ end. ones g c 0 end + ones g c both most) (let e : both ≡ 0 + both = omega arith in e)

pub ones_of_both-requires-clause-fits : goal.ones_of_both-requires-clause-fits
ones_of_both-requires-clause-fits g c = omega (arith, parts g (goal.at.ones_of_both-requires-clause-fits g c).After-min-both, c.requires.fits)

pub ones_of_rest-requires-clause-fits : goal.ones_of_rest-requires-clause-fits
ones_of_rest-requires-clause-fits g c = omega (arith, parts g (goal.at.ones_of_rest-requires-clause-fits g c).After-min-both, c.requires.fits)

pub overflow_add-result : goal.overflow_add-result
overflow_add-result g c = omega (arith, parts g (goal.at.overflow_add-result g c).After-min-both, c.requires.fits, c.ones_of_both.ensures, c.ones_of_rest.ensures)

pub returns : goal.returns
returns g c = omega (arith, parts g (goal.at.returns g c).After-min-both, c.ones_of_both.ensures, c.ones_of_rest.ensures)
