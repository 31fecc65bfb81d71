use Rattle.std.proofs.{Common.{arith, ◌∙◌}, lemmas.Bool.{Decides.{nat_tests}}}
use Rattle.bit_set.proofs.SetLemmas.{same_members}
use Rattle.bit_matrix.proofs.WalkLemmas.{runs_of_row}
use Rattle.bit_matrix.proofs.matrix.BitMatrix.iter.Goals as goal

pub returns-clause-left : goal.returns-clause-left
returns-clause-left g c =
    same_members _ _ c.over.ensures.ascends (c.row_blocks.ensures.matrix.ascends c.args.row) (λ n. c.over.ensures.members n ∙ (let bit = c.row_blocks.ensures.bits n in grind (arith, nat_tests)))

pub returns-clause-runs : goal.returns-clause-runs
returns-clause-runs g c = runs_of_row

pub returns-clause-columns : goal.returns-clause-columns
returns-clause-columns g c n is_in = c.row_blocks.ensures.matrix.below c.args.row n is_in
