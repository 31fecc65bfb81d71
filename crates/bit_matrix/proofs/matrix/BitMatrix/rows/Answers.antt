use Rattle.std.proofs.Common.{sym}
use Rattle.bit_matrix.proofs.SeenLemmas.{seen_matrix, seen_rows}
use Rattle.bit_matrix.proofs.matrix.BitMatrix.rows.Goals as goal

pub returns-clause-value : goal.returns-clause-value
returns-clause-value g c = sym (seen_rows g.met.B.BitBlock.width_law.positive c.self.invariant c.self.view_is)

pub returns-clause-matrix : goal.returns-clause-matrix
returns-clause-matrix g c = seen_matrix g.met.B.BitBlock.width_law.positive c.self.invariant c.self.view_is
