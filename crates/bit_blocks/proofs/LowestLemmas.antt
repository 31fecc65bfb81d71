-- The lowest 1 of a number.
use Rattle.std.proofs.Common.{⊎_elim, ◌≡◌, ◌≢◌, ℕ, zero, suc, ◌+◌, ◌-◌, ◌*◌, ◌/◌, ◌%◌, ◌^◌, ◌<◌, min, count_ones, ap, ◌∙◌}
use Rattle.std.proofs.{Common.arith, Math.Nat.pow-suc, lemmas.{Bool.cases_lt, Nat.{pow_pos, pow_below, ones_cat}}}
use Rattle.std.{proofs.lemmas.Nat.{ones_le_self, zero_from_ones, Bits.{bit_at_lowest, bit_at-suc, bit_at-pow_same, bit_at-pow_other, bit_at-lt, same_from_bits_below}}, specs.Int.bit_at}
use Rattle.bit_blocks.{specs.{DigitLaws.bit_at-complement, Lowest.LowestIsFound}, proofs.Words.complement-number}

-- The digits of m and of m - 1 on each side of the lowest 1
record Sides (m i : ℕ) : Type 0 where
  below : (k : ℕ) → k < i → bit_at m k ≡ 0
  here : bit_at m i ≡ 1
  here_less : bit_at (m - 1) i ≡ 0
  above : (k : ℕ) → i < k → bit_at (m - 1) k ≡ bit_at m k

odd_sides : (m : ℕ) → 0 < m % 2 → Sides m 0
odd_sides m odd = record {
  below = λ k none. absurd (omega arith);
  here = grind (arith, bit_at_lowest m);
  here_less = grind (arith, bit_at_lowest (m - 1));
  above = λ k past. grind (arith, bit_at-suc m (k - 1), bit_at-suc (m - 1) (k - 1));
}

-- one zero more, at the double
even_sides : (m i : ℕ) → 0 < m → m % 2 ≡ 0 → Sides (m / 2) i → Sides m (suc i)
even_sides m i pos even s = record {
  below = λ k low. grind (arith, bit_at_lowest m, bit_at-suc m (k - 1), s.below (k - 1));
  here = grind (arith, bit_at-suc m i, s.here);
  here_less = grind (arith, bit_at-suc (m - 1) i, s.here_less);
  above = λ k past. grind (arith, bit_at-suc m (k - 1), bit_at-suc (m - 1) (k - 1), s.above (k - 1));
}

sides : (w m : ℕ) → 0 < m → m < 2 ^ w → (i : ℕ) × ((i < w) × Sides m i)
sides zero m pos fits = absurd (omega arith)
sides (suc w) m pos fits =
    ⊎_elim
    (λ odd. (0, (omega arith, odd_sides m odd)))
    (λ even.
    let half = sides w (m / 2) (omega arith) (omega (arith, pow-suc 2 w)) in
    (suc half.0, (omega arith, even_sides m half.0 pos (omega arith) half.1.1)))
    (cases_lt 0 (m % 2))

-- What is both m and the complement of m - 1 has the digits of 2 ^ i
isolated_digit : (m i k x y : ℕ) → Sides m i → x ≡ 1 - bit_at (m - 1) k → y ≡ min (bit_at m k) x → y ≡ bit_at (2 ^ i) k
isolated_digit m i k x y s turned is = grind (arith, s.below k, s.here, s.here_less, s.above k, bit_at-pow_same i, bit_at-pow_other i k, bit_at-lt m k)

rest_digit : (m i k y : ℕ) → Sides m i → k ≢ i → y ≡ min (bit_at m k) (bit_at (m - 1) k) → y ≡ bit_at m k
rest_digit m i k y s other is = grind (arith, s.below k, s.above k)

less_turned : (w m k : ℕ) → 0 < m → m < 2 ^ w → k < w → bit_at (2 ^ w - m) k ≡ 1 - bit_at (m - 1) k
less_turned w m k pos fits within = rw (let e : 2 ^ w - m ≡ 2 ^ w - 1 - (m - 1) = omega arith in e) (bit_at-complement w (m - 1) k (omega arith) within)

pub ones_zero : count_ones 0 ≡ 0
ones_zero = omega (arith, ones_le_self 0)

pub ones_one : count_ones 1 ≡ 1
ones_one = grind (arith, ones_le_self 1, zero_from_ones 1)

pub ones_below : (i : ℕ) → count_ones (2 ^ i - 1) ≡ i
ones_below zero = ones_zero
ones_below (suc i) =
    let more : 2 ^ suc i - 1 ≡ 1 * 2 ^ i + (2 ^ i - 1) = omega (arith, pow-suc 2 i, pow_pos i) in
    ap count_ones more ∙ ones_cat i 1 (2 ^ i - 1) (omega (arith, pow_pos i)) ∙ omega (arith, ones_one, ones_below i)

found : (w m i : ℕ) → 0 < m → m < 2 ^ w → i < w → Sides m i → LowestIsFound w m i
found w m i pos fits within s =
    record {
      lowest = record { one = s.here; zeros = s.below };
      within = within;
      wrapping_neg = λ n small turned. let e = complement-number w m n fits small turned in omega (arith, e);
      wrapping_neg_fits = omega arith;
      isolated = λ r small both.
          same_from_bits_below w r (2 ^ i) small (pow_below i w within)
          (λ k inside. isolated_digit m i k (bit_at (2 ^ w - m) k) (bit_at r k) s (less_turned w m k pos fits inside) (both.digit k inside));
      counted = ones_below i;
      rest = λ r both.
          record {
            cleared = let d = both.digit i within in let z = s.here_less in omega arith;
            kept = λ k inside other. rest_digit m i k (bit_at r k) s other (both.digit k inside);
          };
    }

pub lowest_found : (w m : ℕ) → 0 < m → m < 2 ^ w → (i : ℕ) × LowestIsFound w m i
lowest_found w m pos fits = let part = sides w m pos fits in (part.0, found w m part.0 pos fits part.1.0 part.1.1)
