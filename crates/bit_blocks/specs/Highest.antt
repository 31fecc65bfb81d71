-- The highest 1 among the binary digits of a number.
use Rattle.std.specs.{Prelude.{◌≡◌, ℕ, ◌+◌, ◌<◌, ◌≤◌}, Int.bit_at}

-- Digit i of m is 1, and those above it are 0.
pub record IsHighest (m i : ℕ) : Type 0 where
  pub one : bit_at m i ≡ 1
  pub zeros : (k : ℕ) → i < k → bit_at m k ≡ 0

-- Digit i of m is 1, and so are as many digits in all down from it, or all below it; those above it are 0.
pub record IsFilledDown (i count m : ℕ) : Type 0 where
  pub ones : (k : ℕ) → k ≤ i → i < k + count → bit_at m k ≡ 1
  pub zeros : (k : ℕ) → i < k → bit_at m k ≡ 0
