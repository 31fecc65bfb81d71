-- Which values reach a block, and the solutions of the blocks' equations.
use Rattle.std.proofs.Common.{◌≡◌, ℕ, true, inl, inr, List}
use Rattle.bit_set.specs.Sets.{has}
use Rattle.dataflow.specs.Flow.{AreReached, Flow, HasAllDue, IsDue, IsLeastSolution, Reaches, block_at, made, onward, set_at}

-- whatever has all of each right side has the values that reach its blocks
pub reached_within : (blocks : List Flow) (others : List (List ℕ)) (v b : ℕ) → HasAllDue blocks others → Reaches blocks v b → has (set_at others b) v ≡ true
reached_within blocks others v b due (made is) = due b v (inl is)
reached_within blocks others v b due (onward {s = s} source passes before) = due b v (inr ((s, source, reached_within blocks others v s due before), passes))

-- sets that have all of each right side and nothing but what reaches
module _ (blocks : List Flow) (sets : List (List ℕ)) (due : HasAllDue blocks sets) (sound : (b v : ℕ) → has (set_at sets b) v ≡ true → Reaches blocks v b) where
  pub are_reached : AreReached blocks sets
  are_reached b v = (sound b v, reached_within blocks sets v b due)

  owes : (b v : ℕ) → Reaches blocks v b → IsDue (block_at blocks b) sets v
  owes b v (made is) = inl is
  owes b v (onward {s = s} source passes before) = inr ((s, source, reached_within blocks sets v s due before), passes)

  pub is_least : IsLeastSolution blocks sets
  is_least = record {
    solves = λ b v. (λ h. owes b v (sound b v h), due b v);
    least = λ others all b v h. reached_within blocks others v b all (sound b v h);
  }
