-- What a walk over a graph does.
use Rattle.std.specs.{List.sum_by, Prelude.{◌≡◌, ℕ, ◌+◌, ◌≤◌, ◌||◌, ◌⊎◌, IsTrue, List, length}}
use Rattle.bit_set.specs.Sets.{has}

-- Some items went into a set, and each that was new onto a stack, once.
pub record TakesOn (items old old_stack new new_stack : List ℕ) : Type 0 where
  pub members : (v : ℕ) → has new v ≡ (has items v || has old v)
  pub kept : (v : ℕ) → IsTrue (has old_stack v) → IsTrue (has new_stack v)
  pub fresh : (v : ℕ) → IsTrue (has new v) → IsTrue (has old v) ⊎ IsTrue (has new_stack v)
  pub given : (v : ℕ) → IsTrue (has new_stack v) → IsTrue (has old_stack v) ⊎ IsTrue (has items v)
  -- whatever a number weighs: so the stack has each new one just once
  pub weight : (weigh : ℕ → ℕ) → sum_by weigh new_stack + sum_by weigh old ≡ sum_by weigh old_stack + sum_by weigh new
  pub more : length old ≤ length new
