-- The operators on numbers of w digits do to the digits what `Digits` says, at any width.
use Rattle.std.specs.Prelude.{◌≡◌, ℕ, ◌+◌, ◌-◌, ◌*◌, ◌/◌, ◌%◌, ◌^◌, ◌<◌, ◌≤◌, ◌==◌, ◌↔◌, true, bit_and, bit_or, bit_xor}
use Rattle.std.{specs.Int.bit_at, proofs.{Common.{sym, ◌∙◌, ap, arith}, lemmas.Bool.{eqb-true, eq-eqb}}}
use Rattle.std.proofs.lemmas.Nat.{and_le_l, or_lt, xor_lt, and-not, pow_below, pow_pos, shr_split, shr_le, shr-shr}
use Rattle.std.proofs.lemmas.Nat.{mod_below, Bits.{bit_at_cat_high, bit_at-zero}}
use Rattle.std.proofs.lemmas.Nat.Bits.{bit_at_and, bit_at_or, bit_at_xor, and_pow, bit_at-lt, bit_at_above, bit_at_cat_low}
use Rattle.bit_blocks.specs.Digits.{IsBoth, IsEither, IsDifferent, IsComplement, IsShiftedLeft, IsShiftedRight}

pub both : (w m n r : ℕ) → m < 2 ^ w → n < 2 ^ w → r ≡ bit_and m n → (r < 2 ^ w) × IsBoth w m n r
both w m n r small also is =
    (omega (arith, and_le_l m n), record { digit = λ i within. ap (λ x. bit_at x i) is ∙ bit_at_and m n i })

pub either : (w m n r : ℕ) → m < 2 ^ w → n < 2 ^ w → r ≡ bit_or m n → (r < 2 ^ w) × IsEither w m n r
either w m n r small also is =
    (omega (arith, or_lt w m n small also), record { digit = λ i within. ap (λ x. bit_at x i) is ∙ bit_at_or m n i })

pub different : (w m n r : ℕ) → m < 2 ^ w → n < 2 ^ w → r ≡ bit_xor m n → (r < 2 ^ w) × IsDifferent w m n r
different w m n r small also is =
    (omega (arith, xor_lt w m n small also), record { digit = λ i within. ap (λ x. bit_at x i) is ∙ bit_at_xor m n i })

pub bit_at-complement : (w m i : ℕ) → m < 2 ^ w → i < w → bit_at (2 ^ w - 1 - m) i ≡ 1 - bit_at m i
bit_at-complement w m i small within =
    grind (arith, and-not w m (2 ^ i) small (pow_below i w within), and_pow m i, and_pow (2 ^ w - 1 - m) i, bit_at-lt m i, bit_at-lt (2 ^ w - 1 - m) i, pow_pos i)

pub complement : (w m r : ℕ) → m < 2 ^ w → r ≡ 2 ^ w - 1 - m → (r < 2 ^ w) × IsComplement w m r
complement w m r small is = (
  omega (arith, pow_pos w),
  record { digit = λ i within. ap (λ x. bit_at x i) is ∙ bit_at-complement w m i small within },
)

bit_at-mod : (w n i : ℕ) → i < w → bit_at (n % 2 ^ w) i ≡ bit_at n i
bit_at-mod w n i within =
    sym (bit_at_cat_low (n / 2 ^ w) w (n % 2 ^ w) i within) ∙ ap (λ x. bit_at x i) (shr_split n w)

pub bit_at-shl_low : (m d i : ℕ) → i < d → bit_at (m * 2 ^ d) i ≡ 0
bit_at-shl_low m d i low = grind (arith, bit_at_cat_low m d 0 i low, bit_at-zero i)

pub bit_at-shl_high : (m d i : ℕ) → bit_at (m * 2 ^ d) (i + d) ≡ bit_at m i
bit_at-shl_high m d i = grind (arith, bit_at_cat_high m d 0 (i + d) (pow_pos d) (omega arith))

pub shifted_left : (w m d r : ℕ) → d < w → r ≡ (m * 2 ^ d) % 2 ^ w → (r < 2 ^ w) × IsShiftedLeft w m d r
shifted_left w m d r within is = (
  omega (arith, mod_below (m * 2 ^ d) (2 ^ w) (pow_pos w)),
  record {
    zeros = λ i low. ap (λ x. bit_at x i) is ∙ bit_at-mod w (m * 2 ^ d) i (omega arith) ∙ bit_at-shl_low m d i low;
    moved = λ i high. ap (λ x. bit_at x (i + d)) is ∙ bit_at-mod w (m * 2 ^ d) (i + d) high ∙ bit_at-shl_high m d i;
  },
)

bit_at-shr : (m d i : ℕ) → bit_at (m / 2 ^ d) i ≡ bit_at m (i + d)
bit_at-shr m d i = ap (λ x. x % 2) (shr-shr m d i ∙ ap (λ x. m / 2 ^ x) (let e : d + i ≡ i + d = omega arith in e))

pub shifted_right : (w m d r : ℕ) → m < 2 ^ w → r ≡ m / 2 ^ d → (r < 2 ^ w) × IsShiftedRight w m d r
shifted_right w m d r small is = (
  omega (arith, shr_le m d),
  record {
    moved = λ i within. ap (λ x. bit_at x i) is ∙ bit_at-shr m d i;
    zeros = λ i within past. ap (λ x. bit_at x i) is ∙ bit_at-shr m d i ∙ bit_at_above m w (i + d) small past;
  },
)

-- `+` and `-` where the result is the number of a block.
pub added : (w m n r : ℕ) → m < 2 ^ w → n < 2 ^ w → m + n < 2 ^ w → r ≡ m + n → (r < 2 ^ w) × (r ≡ m + n)
added w m n r small also fits is = (omega arith, is)

pub subtracted : (w m n r : ℕ) → m < 2 ^ w → n < 2 ^ w → n ≤ m → r ≡ m - n → (r < 2 ^ w) × (r + n ≡ m)
subtracted w m n r small also below is = (omega arith, omega arith)

-- `==` of two blocks that are their own numbers.
pub compared : (w m n : ℕ) → m < 2 ^ w → n < 2 ^ w → (m == n ≡ true) ↔ (m ≡ n)
compared w m n small also = (eqb-true m n, eq-eqb m n)
