use Rattle.std.{specs.List.list_any, proofs.Common.{◌≡◌, ℕ, ◌||◌}}
use Rattle.bit_set.specs.Sets.{elements, has}
use Rattle.bit_matrix.specs.Matrices.{has_at}
use Rattle.uses.proofs.matrices.image.Given as goal

abbrev pub invariant-loop-r : goal.invariant-loop-r
invariant-loop-r g l = record {
  can_next : (goal.iterator-loop-r g).can_next l.r-iterator;
  finite : (goal.iterator-loop-r g).is_finite l.r-iterator;
  rest : (c : ℕ) → (has (elements l.to.values) c || list_any (λ r. has_at l.matrix r c) l.r-iterator.left)
      ≡ list_any (λ r. has_at l.matrix r c) (elements l.from.values);
}
