-- A digit of a block that an operator gives, as a test. `masks.rt` names the set.
use Rattle.std.proofs.Common.{◌≡◌, ◌≢◌, ℕ, ◌-◌, ◌^◌, ◌<◌, true, false, not, ◌&&◌, ◌||◌, ◌==◌, nat_lt, nat_le, refl, ap, ◌∙◌}
use Rattle.std.proofs.Common.{arith}
use Rattle.std.proofs.lemmas.{Bool.Decides.nat_tests, Nat.Bits.{bit_at-lt, bit_at-zero, bit_at-pow_same}}
use Rattle.std.{proofs.lemmas.Nat.Bits.{bit_at-pow_other, bit_at_ones, bit_at_ones_above}, specs.Int.bit_at}
use Rattle.bit_blocks.specs.Digits.{IsBoth, IsEither, IsDifferent, IsComplement, is_one}

pub is_one-both : (w m n r j : ℕ) → IsBoth w m n r → j < w → is_one r j ≡ (is_one m j && is_one n j)
is_one-both w m n r j is h = grind (arith, nat_tests, is.digit j h, bit_at-lt m j, bit_at-lt n j)

pub is_one-either : (w m n r j : ℕ) → IsEither w m n r → j < w → is_one r j ≡ (is_one m j || is_one n j)
is_one-either w m n r j is h = grind (arith, nat_tests, is.digit j h, bit_at-lt m j, bit_at-lt n j)

pub is_one-different : (w m n r j : ℕ) → IsDifferent w m n r → j < w → is_one r j ≡ ((is_one m j && not (is_one n j)) || (not (is_one m j) && is_one n j))
is_one-different w m n r j is h = grind (arith, nat_tests, is.digit j h, bit_at-lt m j, bit_at-lt n j)

pub is_one-complement : (w m r j : ℕ) → IsComplement w m r → j < w → is_one r j ≡ not (is_one m j)
is_one-complement w m r j is h = grind (arith, nat_tests, is.digit j h, bit_at-lt m j)

pub is_one-bit : (d m a : ℕ) → bit_at m a ≡ d → is_one m a ≡ (d == 1)
is_one-bit d m a h = ap (λ x. x == 1) h

pub is_one-zero : (j : ℕ) → is_one 0 j ≡ false
is_one-zero j = ap (λ d. d == 1) (bit_at-zero j)

-- masks, by their numbers
pub is_one-pow_same : (n j : ℕ) → n ≡ 2 ^ j → is_one n j ≡ true
is_one-pow_same n j e = rw e (rw bit_at-pow_same refl)

pub is_one-pow_other : (n i j : ℕ) → n ≡ 2 ^ i → j ≢ i → is_one n j ≡ false
is_one-pow_other n i j e h = ap (λ d. d == 1) (ap (λ m. bit_at m j) e ∙ bit_at-pow_other i j h)

pub is_one-ones : (n k j : ℕ) → n ≡ 2 ^ k - 1 → is_one n j ≡ nat_lt j k
is_one-ones n k j e = grind (arith, nat_tests, bit_at_ones, bit_at_ones_above)

pub not_lt-le : (j k : ℕ) → not (nat_lt j k) ≡ nat_le k j
not_lt-le j k = grind (arith, nat_tests)

pub ruleset masks = (is_one-both, is_one-either, is_one-different, is_one-complement, is_one-zero, is_one-pow_same, is_one-pow_other, is_one-ones, not_lt-le)
