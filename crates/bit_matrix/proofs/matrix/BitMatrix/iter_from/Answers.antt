use Rattle.std.proofs.Common.{◌&&◌, nat_le, ap, sym, ◌∙◌}
use Rattle.bit_set.proofs.SetLemmas.{AscendsFrom-filter, has-filter, same_members}
use Rattle.bit_matrix.{specs.Matrices.row_of, proofs.WalkLemmas.runs_of_row}
use Rattle.bit_matrix.proofs.matrix.BitMatrix.iter_from.Goals as goal

pub returns-clause-left : goal.returns-clause-left
returns-clause-left g c =
    let row = row_of c.args.self.now c.args.row in
    same_members _ _ c.over.ensures.ascends (AscendsFrom-filter 0 _ row (c.row_blocks.ensures.matrix.ascends c.args.row)) (λ n.
    c.over.ensures.members n ∙ ap (λ b. nat_le c.args.from n && b) (c.row_blocks.ensures.bits n) ∙ sym (has-filter (nat_le c.args.from) row n))

pub returns-clause-runs : goal.returns-clause-runs
returns-clause-runs g c = runs_of_row

pub returns-clause-columns : goal.returns-clause-columns
returns-clause-columns g c n is_in = c.row_blocks.ensures.matrix.below c.args.row n is_in
