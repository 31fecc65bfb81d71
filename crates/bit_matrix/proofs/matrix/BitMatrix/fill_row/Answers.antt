use Rattle.std.proofs.{Common.{◌∙◌, ap, arith}, lemmas.Bool.{Decides.{nat_tests}}}
use Rattle.bit_set.proofs.RangeLemmas.{has-span}
use Rattle.bit_matrix.specs.Matrices.{row_of, with_row}
use Rattle.bit_matrix.proofs.{SeenLemmas.{none_past}, SpanLemmas.{all_columns}, TableLemmas.{changes_row}}
use Rattle.bit_matrix.proofs.matrix.BitMatrix.fill_row.Goals as goal

pub returns-clause-matrix : goal.returns-clause-matrix
returns-clause-matrix g c =
    let now = c.args.self.now in
    let all = all_columns (row_of now c.args.row) now.columns (c.columns-columns.ensures.matrix.ascends c.args.row) (λ d past. none_past now c.columns-columns.ensures.matrix c.args.row d past) in
    c.insert_range.ensures.matrix ∙ ap (with_row now c.args.row) (rw c.columns-columns.ensures.value all)

pub returns-clause-members : goal.returns-clause-members
returns-clause-members g c = changes_row c.args.self.now _ c.args.row _ _ c.requires (returns-clause-matrix g c) (λ d. has-span 0 c.args.self.now.columns d ∙ grind (arith, nat_tests))
