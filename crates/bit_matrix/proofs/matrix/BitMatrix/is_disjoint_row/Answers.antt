use Rattle.bit_matrix.proofs.SeenLemmas.{reported_disjoint}
use Rattle.bit_matrix.proofs.matrix.BitMatrix.is_disjoint_row.Goals as goal

pub returns-clause-returned : goal.returns-clause-returned
returns-clause-returned g c = reported_disjoint _ g.B.BitBlock.width _ _ _ _ c.intersection_is_zero.ensures.zero c.row_blocks.ensures.bits c.row_blocks-2.ensures.bits
