-- The laws of sets and of matrices in memory.
use mathlib.Core.Path.{refl}
use denote.Param.Laws.{Laws, of_field}
use denote.Param.Shared.{copy_shared}
use denote.Struct.Field.{u64-field}
use denote.Struct.Laws.{u64-laws, u64-copy}
use Rattle.std.specs.Borrow.{u64}
use Rattle.bit_blocks.specs.contracts.block.integers.U64BitBlock.TheImpl as block
use Rattle.std.specs.contracts.prelude.U64PartialEq.TheImpl as eq
use Rattle.std.specs.contracts.prelude.U64BitAnd.TheImpl as and
use Rattle.std.specs.contracts.prelude.U64BitOr.TheImpl as or
use Rattle.std.specs.contracts.prelude.U64BitXor.TheImpl as xor
use Rattle.std.specs.contracts.prelude.U64Not.TheImpl as complement
use Rattle.std.specs.contracts.prelude.U64Add.TheImpl as add
use Rattle.std.specs.contracts.prelude.U64Sub.TheImpl as sub
use Rattle.bit_set_c.specs.Block.{matrix_row, set_row}
use Rattle.bit_set.proofs.set.BitSet.TheLaws as set
use Rattle.bit_matrix.proofs.matrix.BitMatrix.TheLaws as matrix

abbrev pub set_laws : Laws set_row
set_laws = set.the_row_laws u64 block.ghosts eq.ghosts and.ghosts or.ghosts xor.ghosts complement.ghosts add.ghosts sub.ghosts (of_field u64-field u64-laws refl (copy_shared u64-field u64-copy))

abbrev pub matrix_laws : Laws matrix_row
matrix_laws = matrix.the_row_laws u64 block.ghosts eq.ghosts and.ghosts or.ghosts xor.ghosts complement.ghosts add.ghosts sub.ghosts (of_field u64-field u64-laws refl (copy_shared u64-field u64-copy))
