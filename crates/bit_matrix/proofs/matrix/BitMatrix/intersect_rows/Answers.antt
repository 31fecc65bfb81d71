use Rattle.bit_blocks.specs.declared.block.merge.Merge.TheVariants.{Intersection}
use Rattle.bit_set.proofs.AlgebraLemmas.{has-merge_of_sets}
use Rattle.bit_matrix.{specs.Matrices.row_of, proofs.TableLemmas.changes_row}
use Rattle.bit_matrix.proofs.matrix.BitMatrix.intersect_rows.Goals as goal

pub returns-clause-members : goal.returns-clause-members
returns-clause-members g c =
    changes_row c.args.self.now _ c.args.write _ _ c.requires.write c.merge_rows.ensures.matrix
    (has-merge_of_sets Intersection (row_of c.args.self.now c.args.write) (row_of c.args.self.now c.args.read))
