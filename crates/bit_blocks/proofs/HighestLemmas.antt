-- The highest 1 of a number, and the ones that are filled in below it.
use Rattle.std.proofs.Common.{◌≡◌, ℕ, ◌+◌, ◌-◌, ◌/◌, ◌%◌, ◌^◌, ◌<◌, ◌≤◌, ◌*◌, suc, ap, subst, ◌∙◌, arith, pow_pos, pow-suc, div-lt_iff_lt-mul}
use Rattle.std.proofs.{Math.{Nat.mod-eq_of_lt, Pow.pow_mono}, lemmas.Nat.{and_mask, leading_top, le-div, Bits.{bit_at-lt, bit_at_above, bit_at_ones, bit_at_ones_above, same_from_bits_below}}}
use Rattle.std.specs.Int.{bit_at, Bits.{bit_xor, xor_add_and}, Count.count_leading_zeros}
use Rattle.bit_blocks.specs.{Digits.{IsEither, IsShiftedRight}, Highest.{IsHighest, IsFilledDown}}

-- a number that is not 0 has one, below the zeros that lead its digits
highest_below : (w m : ℕ) → 0 < m → m < 2 ^ w → (i : ℕ) × (count_leading_zeros w m + suc i ≡ w) × IsHighest m i
highest_below w m pos fits =
    let top = leading_top w m pos fits in
    let i : ℕ = top.0 in (
      i,
      top.1,
      record {
        one =
            let least = le-div 1 m (2 ^ i) (pow_pos i) (omega (arith, top.2)) in
            let most = (div-lt_iff_lt-mul (pow_pos i)).1 (let e : m < 2 * 2 ^ i = omega (arith, top.3, pow-suc 2 i) in e) in
            ap (λ q. q % 2) (let e : m / 2 ^ i ≡ 1 = omega (arith, least, most) in e);
        zeros = λ k past. bit_at_above m (suc i) k top.3 (omega (arith, past));
      },
    )

pub highest_found : (w m : ℕ) → 0 < m → m < 2 ^ w → (i : ℕ) × IsHighest m i
highest_found w m pos fits = let found = highest_below w m pos fits in (found.0, found.2)

-- the zeros that lead 2 ^ k digits, each digit of their count flipped
pub highest_by_zeros : (k m : ℕ) → 0 < m → m < 2 ^ (2 ^ k) → (bit_xor (count_leading_zeros (2 ^ k) m) (2 ^ k - 1) < 2 ^ k) × IsHighest m (bit_xor (count_leading_zeros (2 ^ k) m) (2 ^ k - 1))
highest_by_zeros k m pos fits =
    let found = highest_below (2 ^ k) m pos fits in
    let zeros = count_leading_zeros (2 ^ k) m in
    let few : zeros < 2 ^ k = omega (arith, found.1) in
    let same : found.0 ≡ bit_xor zeros (2 ^ k - 1) = omega (arith, found.1, few, xor_add_and zeros (2 ^ k - 1), and_mask zeros k, mod-eq_of_lt few) in
    (omega (arith, found.1, same), subst (IsHighest m) same found.2)

-- those of the integers
pub highest_of_8 : (m : ℕ) → 0 < m → m < 2 ^ 8 → (bit_xor (count_leading_zeros 8 m) 7 < 8) × IsHighest m (bit_xor (count_leading_zeros 8 m) 7)
highest_of_8 = highest_by_zeros 3

pub highest_of_16 : (m : ℕ) → 0 < m → m < 2 ^ 16 → (bit_xor (count_leading_zeros 16 m) 15 < 16) × IsHighest m (bit_xor (count_leading_zeros 16 m) 15)
highest_of_16 = highest_by_zeros 4

pub highest_of_32 : (m : ℕ) → 0 < m → m < 2 ^ 32 → (bit_xor (count_leading_zeros 32 m) 31 < 32) × IsHighest m (bit_xor (count_leading_zeros 32 m) 31)
highest_of_32 = highest_by_zeros 5

pub highest_of_64 : (m : ℕ) → 0 < m → m < 2 ^ 64 → (bit_xor (count_leading_zeros 64 m) 63 < 64) × IsHighest m (bit_xor (count_leading_zeros 64 m) 63)
highest_of_64 = highest_by_zeros 6

pub highest_of_128 : (m : ℕ) → 0 < m → m < 2 ^ 128 → (bit_xor (count_leading_zeros 128 m) 127 < 128) × IsHighest m (bit_xor (count_leading_zeros 128 m) 127)
highest_of_128 = highest_by_zeros 7

pub ruleset highest_ones = (highest_of_8, highest_of_16, highest_of_32, highest_of_64, highest_of_128)

pub highest_within : (w m i : ℕ) → m < 2 ^ w → IsHighest m i → i < w
highest_within w m i fits high = grind (arith, bit_at_above m w i fits, high.one)

-- at first it is filled down to itself
pub filled_at_first : (m i : ℕ) → IsHighest m i → IsFilledDown i 1 m
filled_at_first m i high = record {
  ones = λ k below reached. ap (bit_at m) (let e : k ≡ i = omega arith in e) ∙ high.one;
  zeros = high.zeros;
}

-- and twice as far after a shift by as many digits
pub filled_more : (w i d e m s n : ℕ) → i < w → n < 2 ^ w → m < 2 ^ w → IsShiftedRight w m d s → IsEither w m s n → e ≤ d + d → IsFilledDown i d m → IsFilledDown i e n
filled_more w i d e m s n within fits small shifted either far filled = record {
  ones = λ k below reached. grind (arith, either.digit k (omega arith), filled.ones k below, filled.ones (k + d), shifted.moved k, bit_at-lt m k, bit_at-lt s k);
  zeros = λ k past. grind (arith, either.digit k, filled.zeros k past, filled.zeros (k + d), shifted.moved k, shifted.zeros k, bit_at_above n w k fits);
}

-- all digits from there down
pub filled_whole : (w i d n : ℕ) → i < w → n < 2 ^ w → w ≤ d → IsFilledDown i d n → n ≡ 2 ^ (i + 1) - 1
filled_whole w i d n within fits far filled =
    same_from_bits_below w n (2 ^ (i + 1) - 1) fits (let whole = pow_mono (let e : i + 1 ≤ w = omega arith in e) in omega (arith, whole, pow_pos (i + 1))) (λ k inside.
    grind (arith, filled.ones k, filled.zeros k, bit_at_ones, bit_at_ones_above))
