-- Where a search by a test ends.
use Rattle.std.specs.Prelude.{◌≡◌, ℕ, ◌<◌, ◌≤◌, Bool, true, false, Option, MatchOption}

-- i is the first number from n on that passes the test
pub record IsFirstFrom (test : ℕ → Bool) (n i : ℕ) : Type 0 where
  pub passes : test i ≡ true
  pub reached : n ≤ i
  pub between : (j : ℕ) → n ≤ j → j < i → test j ≡ false

-- i is the last number below n that passes the test
pub record IsLastBefore (test : ℕ → Bool) (n i : ℕ) : Type 0 where
  pub passes : test i ≡ true
  pub before : i < n
  pub between : (j : ℕ) → i < j → j < n → test j ≡ false

-- A search from n on gave the first number that passes the test, or None where none does.
abbrev pub FindsFrom : (ℕ → Bool) → ℕ → Option ℕ → Type 0
FindsFrom test n r = MatchOption r ((j : ℕ) → n ≤ j → test j ≡ false) (IsFirstFrom test n)

-- A search down from n gave the last number below it that passes the test, or None where none does.
abbrev pub FindsBefore : (ℕ → Bool) → ℕ → Option ℕ → Type 0
FindsBefore test n r = MatchOption r ((j : ℕ) → j < n → test j ≡ false) (IsLastBefore test n)
