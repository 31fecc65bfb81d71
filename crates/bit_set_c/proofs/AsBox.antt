-- What C owns of a set or of a matrix.
use Rattle.c_handles.proofs.Owned.{Owner}
use Rattle.bit_set_c.specs.Block.{matrix_row, set_row}
use Rattle.bit_set_c.specs.contracts.handed.matrices.OwnedMatrix.{the_type as M}
use Rattle.bit_set_c.specs.contracts.handed.sets.Owned.{the_type as S}

abbrev pub set_owner : Owner set_row
set_owner = record { name = S.name; D = S.D; at = λ h. h.at; alloc = λ h. h.alloc; held = λ h. h.held; coded = S.coded; shr_at = S.shr_at }

abbrev pub matrix_owner : Owner matrix_row
matrix_owner = record { name = M.name; D = M.D; at = λ h. h.at; alloc = λ h. h.alloc; held = λ h. h.held; coded = M.coded; shr_at = M.shr_at }
