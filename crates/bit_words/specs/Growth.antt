-- What a growth makes of a list and its capacity.
use Rattle.std.specs.Prelude.{◌≡◌, ℕ, ◌<◌, ◌≤◌, max, Bool, length, IsOk, IsTrue, OnErr, OnOk, Result}
use Rattle.bit_blocks.specs.Bits.{Bits}
use Rattle.bit_words.specs.Summary.{shared_capacity, stored_for}

-- A call that needs capacity for n values found `old` and left `new`. Where the capacity was there it succeeded, and
-- the capacity stayed. It failed only where the capacity was less, and then left all as it was. No such call lowers the
-- capacity.
pub record Grows {T E : Type 0} (n : ℕ) (result : Result T E) (old new : Bits) : Type 0 where
  pub succeeds : n ≤ old.capacity → IsOk result
  pub within : n ≤ old.capacity → new.capacity ≡ old.capacity
  pub ok : OnOk result (n ≤ new.capacity)
  pub full : OnErr result (old.capacity < n)
  pub err : OnErr result (new ≡ old)
  pub capacity : old.capacity ≤ new.capacity
  pub holds_values : length old.values ≤ old.capacity

-- A call that needs capacity for `count` blocks found capacity for `old` and left capacity for `new`. No public clause
-- cites this, nor what follows.
pub record Reserves {E : Type 0} (count : ℕ) (result : Result Unit E) (old new : ℕ) : Type 0 where
  pub ok : OnOk result (count ≤ new)
  pub full : OnErr result (old < count)
  pub err : OnErr result (new ≡ old)
  pub within : count ≤ old → new ≡ old

-- A call that needs capacity for `count` blocks and their summary, and where that was asked for no more, found capacity
-- for `blocks` and `summary` and left capacity for `new_blocks` and `new_summary`.
pub record ReservesShared {E : Type 0} (w count : ℕ) (is_exact : Bool) (result : Result Unit E)
    (blocks summary new_blocks new_summary : ℕ) : Type 0 where
  pub reserves : Reserves count result (shared_capacity w blocks summary) (shared_capacity w new_blocks new_summary)
  pub exact : IsTrue is_exact → OnOk result (new_blocks ≡ max blocks count)
  pub exact_summary : IsTrue is_exact → OnOk result (new_summary ≡ max summary (stored_for w count))
