use Rattle.std.proofs.Common.{◌≡◌, ℕ, ◌%◌, ◌&&◌, ◌==◌, nat_lt}
use Rattle.bit_set.specs.Sets.{elements, has}
use Rattle.evens.proofs.evens.Given as goal

-- the even numbers below the next one are present, and no others
abbrev pub invariant-loop-number : goal.invariant-loop-number
invariant-loop-number l = (x : ℕ) → has (elements l.set.values) x ≡ (nat_lt x l.number && x % 2 == 0)
