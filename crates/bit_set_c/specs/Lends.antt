-- What a set or a matrix that C lends is after it was handed on.
use Rattle.std.specs.Borrow.{Fml, Lends, MutBor}
use Rattle.bit_blocks.specs.Bits.{Bits}
use Rattle.bit_matrix.specs.Matrices.{Matrix}
use Rattle.c_handles.specs.Handed.{ends_as_is}
use Rattle.bit_set_c.specs.{Block.{matrix_row, set_row}, declared.handed.sets.Exclusive.Exclusive}
use Rattle.bit_set_c.specs.contracts.handed.sets.Exclusive as exclusive
use Rattle.bit_set_c.specs.{declared.handed.matrices.SharedMatrix.SharedMatrix, declared.handed.sets.Shared.Shared}
use Rattle.bit_set_c.specs.contracts.handed.sets.Shared as shared
use Rattle.bit_set_c.specs.declared.handed.matrices.ExclusiveMatrix.{ExclusiveMatrix}
use Rattle.bit_set_c.specs.contracts.handed.matrices.ExclusiveMatrix as exclusive_matrix
use Rattle.bit_set_c.specs.contracts.handed.matrices.SharedMatrix as shared_matrix

abbrev pub with_bits : Exclusive → Bits → Exclusive
with_bits set bits = record set { bits = bits }

abbrev pub with_cells : ExclusiveMatrix → Matrix → ExclusiveMatrix
with_cells matrix cells = record matrix { cells = cells }

-- `set` ends as what is left in `inner`
abbrev pub lends_set : MutBor Exclusive → MutBor Bits → Fml
lends_set set inner = Lends exclusive.the_row set_row set inner (with_bits set.now)

-- `matrix` ends as what is left in `inner`
abbrev pub lends_matrix : MutBor ExclusiveMatrix → MutBor Matrix → Fml
lends_matrix matrix inner = Lends exclusive_matrix.the_row matrix_row matrix inner (with_cells matrix.now)

abbrev pub set_stays : MutBor Shared → Fml
set_stays = ends_as_is shared.the_row

abbrev pub matrix_stays : MutBor SharedMatrix → Fml
matrix_stays = ends_as_is shared_matrix.the_row
