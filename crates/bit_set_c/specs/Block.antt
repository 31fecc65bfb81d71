-- The blocks of the sets and of the matrices, as `src/block.rt` has them.
use Rattle.std.specs.{Borrow.{RattleType, u64}, Coded.{Coded, coded_option}, Prelude.{ℕ, Option}}
use Rattle.bit_blocks.specs.contracts.block.integers.U64BitBlock.TheImpl as block
use Rattle.std.specs.contracts.prelude.U64PartialEq.TheImpl as eq
use Rattle.std.specs.contracts.prelude.U64BitAnd.TheImpl as and
use Rattle.std.specs.contracts.prelude.U64BitOr.TheImpl as or
use Rattle.std.specs.contracts.prelude.U64BitXor.TheImpl as xor
use Rattle.std.specs.contracts.prelude.U64Not.TheImpl as complement
use Rattle.std.specs.contracts.prelude.U64Add.TheImpl as add
use Rattle.std.specs.contracts.prelude.U64Sub.TheImpl as sub
use Rattle.bit_blocks.specs.Bits.{Bits}
use Rattle.bit_matrix.specs.Matrices.{Matrix}
use Rattle.bit_set.specs.contracts.set.BitSet as set
use Rattle.bit_matrix.specs.contracts.matrix.BitMatrix as matrix

-- how many bits a block has
abbrev pub width : ℕ
width = 64

-- how memory keeps a set
abbrev pub set_row : RattleType
set_row = set.the_row u64 block.ghosts eq.ghosts and.ghosts or.ghosts xor.ghosts complement.ghosts add.ghosts sub.ghosts

-- how memory keeps a matrix
abbrev pub matrix_row : RattleType
matrix_row = matrix.the_row u64 block.ghosts eq.ghosts and.ghosts or.ghosts xor.ghosts complement.ghosts add.ghosts sub.ghosts

abbrev pub bits_coded : Coded Bits
bits_coded = (set_row).coded

abbrev pub held_bits_coded : Coded (Option Bits)
held_bits_coded = coded_option bits_coded

abbrev pub matrix_coded : Coded Matrix
matrix_coded = (matrix_row).coded

abbrev pub held_matrix_coded : Coded (Option Matrix)
held_matrix_coded = coded_option matrix_coded
