use Rattle.bit_matrix.proofs.SeenLemmas.{seen_matrix}
use Rattle.bit_matrix.proofs.matrix.BitMatrix.columns.Goals as goal

pub returns-clause-matrix : goal.returns-clause-matrix
returns-clause-matrix g c = seen_matrix g.met.B.BitBlock.width_law.positive c.self.invariant c.self.view_is
