use Rattle.bit_matrix.proofs.SeenLemmas.{reported_subset}
use Rattle.bit_matrix.proofs.matrix.BitMatrix.is_subset_row.Goals as goal

pub returns-clause-returned : goal.returns-clause-returned
returns-clause-returned g c = reported_subset _ g.B.BitBlock.width _ _ _ _ c.difference_is_zero.ensures.zero c.row_blocks.ensures.bits c.row_blocks-2.ensures.bits
