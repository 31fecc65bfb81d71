use Rattle.std.proofs.Common.{◌≡◌, ℕ, ◌<◌, ◌&&◌, not, false, IsTrue}
use Rattle.bit_set.specs.Sets.{has}
use Rattle.bit_matrix.specs.Matrices.{has_at}
use Rattle.uses.proofs.matrices.is_symmetric.Given as goal

abbrev pub invariant-loop-c : goal.invariant-loop-c
invariant-loop-c g l = record {
  can_next : (goal.iterator-loop-c g).can_next l.c-iterator;
  finite : (goal.iterator-loop-c g).is_finite l.c-iterator;
  below : (c : ℕ) → IsTrue (has l.c-iterator c) → c < l.matrix.columns;
  row : (c : ℕ) → (has_at l.matrix l.r c && not (has l.c-iterator c) && not (has_at l.matrix c l.r)) ≡ false;
}

abbrev pub invariant-loop-r : goal.invariant-loop-r
invariant-loop-r g l = (r c : ℕ) → r < l.r → (has_at l.matrix r c && not (has_at l.matrix c r)) ≡ false
