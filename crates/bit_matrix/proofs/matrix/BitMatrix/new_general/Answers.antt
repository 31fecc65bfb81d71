use Rattle.std.proofs.{Common.{◌≡◌, ℕ, false, map, refl, arith}}
use Rattle.bit_blocks.proofs.PackedLemmas.{value_at-append_zeros}
use Rattle.bit_matrix.{specs.Tables.{bit_of}, proofs.{TableLemmas.{is_matrix_of}, matrix.BitMatrix.new_general.Goals.{After-push_copies}}}
use Rattle.bit_matrix.proofs.matrix.BitMatrix.new_general.Goals as goal

-- each bit is 0
zeros : (g : _) (c : After-push_copies g) (r d : ℕ) → bit_of g.B.BitBlock.width c.block_count-stride.result (map g.B.BitBlock.number c.push_copies.new.blocks.items) r d ≡ false
zeros g c r d = rw c.push_copies.ensures.numbers (value_at-append_zeros g.B.BitBlock.width _ _ _ _ c.zero.ensures.of_number (rw c.in_ok-blocks.ensures.items (omega arith)))

pub invariant_of-result : goal.invariant_of-result
invariant_of-result g c = record {
  each = c.push_copies.ensures.each;
  in_row = c.block_count-stride.ensures;
  count = omega (arith, c.push_copies.new.blocks.ok.0, c.push_copies.ensures.len, c.in-Some.ensures.0);
  clean = record { tail = λ r d past below. zeros g (goal.at.invariant_of-result g c).After-push_copies r d };
  fits = omega (arith, c.in-Some.ensures.1);
}

pub returns-clause-matrix : goal.returns-clause-matrix
returns-clause-matrix g c = is_matrix_of _ _ _ _ _ _ tt (λ r d row column. zeros g (goal.at.returns-clause-matrix g c).After-push_copies r d) (λ d past. refl)
