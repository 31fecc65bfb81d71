-- The lowest 1 among the binary digits of a number.
use Rattle.std.specs.{Prelude.{◌≡◌, ◌≢◌, ℕ, ◌+◌, ◌-◌, ◌^◌, ◌<◌, ◌≤◌, count_ones}, Int.bit_at}
use Rattle.bit_blocks.specs.Digits.{IsBoth, IsComplement}

-- Digit i of m is 1, and those below it are 0.
pub record IsLowest (m i : ℕ) : Type 0 where
  pub one : bit_at m i ≡ 1
  pub zeros : (k : ℕ) → k < i → bit_at m k ≡ 0

-- Of w digits, r has those of m with digit i made 0.
pub record IsCleared (w m i r : ℕ) : Type 0 where
  pub cleared : bit_at r i ≡ 0
  pub kept : (k : ℕ) → k < w → k ≢ i → bit_at r k ≡ bit_at m k

-- How blocks of w digits find the lowest 1 of m, at index i, and clear it.
pub record LowestIsFound (w m i : ℕ) : Type 0 where
  pub lowest : IsLowest m i
  pub within : i < w
  -- `!m + 1`, which does not wrap
  pub wrapping_neg : (n : ℕ) → n < 2 ^ w → IsComplement w m n → n + 1 ≡ 2 ^ w - m
  pub wrapping_neg_fits : 2 ^ w - m < 2 ^ w
  -- `m & (!m + 1)`
  pub isolated : (r : ℕ) → r < 2 ^ w → IsBoth w m (2 ^ w - m) r → r ≡ 2 ^ i
  -- the index is the count of ones below it
  pub counted : count_ones (2 ^ i - 1) ≡ i
  -- `m & (m - 1)`
  pub rest : (r : ℕ) → IsBoth w m (m - 1) r → IsCleared w m i r

-- Of w digits, l is the lowest 1 of m alone: the number o below it counts its index, and clearing goes by that index.
pub record IsIsolated (w m l : ℕ) : Type 0 where
  pub some : 1 ≤ l
  pub within : (o : ℕ) → o + 1 ≡ l → count_ones o < w
  pub lowest : (o : ℕ) → o + 1 ≡ l → IsLowest m (count_ones o)
  pub cleared : (o r : ℕ) → o + 1 ≡ l → IsBoth w m (m - 1) r → IsCleared w m (count_ones o) r
