-- The block from which a walk goes on.
use Rattle.std.proofs.Common.{◌≡◌, ℕ, zero, suc, ◌+◌, ◌<◌, ◌≤◌, Bool, true, false, ap, arith}
use Rattle.bit_blocks.{specs.{Digits.is_one, Lowest.IsLowest}, proofs.Masks.{is_one-bit, is_one-zero}}
use Rattle.bit_words.specs.Pending.{first_true, next_at}

-- ---- the first truth value that is true

pub before_first : (f : ℕ → Bool) (n j : ℕ) → j < first_true f n → f j ≡ false
before_first f zero j below = absurd (omega (arith, below))
before_first f (suc n) zero below = grind arith
before_first f (suc n) (suc j) below = grind (arith, before_first (λ k. f (suc k)) n j)

pub first_most : (f : ℕ → Bool) (n : ℕ) → first_true f n ≤ n
first_most f zero = omega arith
first_most f (suc n) = grind (arith, first_most (λ k. f (suc k)) n)

pub at_first : (f : ℕ → Bool) (n : ℕ) → first_true f n < n → f (first_true f n) ≡ true
at_first f zero within = absurd (omega (arith, within))
at_first f (suc n) within = grind (arith, at_first (λ k. f (suc k)) n)

pub first_least : (f : ℕ → Bool) (n d : ℕ) → d ≤ n → ((j : ℕ) → j < d → f j ≡ false) → d ≤ first_true f n
first_least f n d to none = grind (arith, at_first f n, none (first_true f n))

pub first_is : (f : ℕ → Bool) (n i : ℕ) → i < n → f i ≡ true → ((j : ℕ) → j < i → f j ≡ false) → first_true f n ≡ i
first_is f n i within here none = grind (arith, first_least f n i, before_first f n i)

-- where there is no 1 a walk goes on past the digits
pub next_at-zero : (w index m : ℕ) → m ≡ 0 → next_at w index m ≡ index + w
next_at-zero w index m none = grind (arith, first_least (is_one m) w w, first_most (is_one m) w, is_one-zero)

pub next_at-lowest : (w index m i : ℕ) → IsLowest m i → i < w → next_at w index m ≡ index + i
next_at-lowest w index m i low within = ap (λ n. index + n) (first_is (is_one m) w i within (is_one-bit 1 m i low.one) (λ j below. is_one-bit 0 m j (low.zeros j below)))
