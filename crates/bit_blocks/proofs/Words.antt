-- The number of what an operator gives, from its digits.
use Rattle.std.proofs.Common.{◌≡◌, ℕ, ◌-◌, ◌*◌, ◌/◌, ◌%◌, ◌^◌, ◌<◌, refl, bit_and, bit_or, sym, ap, ◌∙◌, arith}
use Rattle.std.proofs.lemmas.Nat.{and_le_l, or_lt, one_shl, Bits.{bit_at_and, bit_at_or, same_from_bits_below}}
use Rattle.bit_blocks.specs.{Digits.{IsBoth, IsEither, IsComplement, IsShiftedLeft, IsShiftedRight}, DigitLaws.{complement, shifted_left, shifted_right}}

pub both-number : (w m n r : ℕ) → m < 2 ^ w → r < 2 ^ w → IsBoth w m n r → r ≡ bit_and m n
both-number w m n r small fits is =
    same_from_bits_below w r (bit_and m n) fits (omega (arith, and_le_l m n)) (λ i within. is.digit i within ∙ sym (bit_at_and m n i))

pub either-number : (w m n r : ℕ) → m < 2 ^ w → n < 2 ^ w → r < 2 ^ w → IsEither w m n r → r ≡ bit_or m n
either-number w m n r small also fits is =
    same_from_bits_below w r (bit_or m n) fits (or_lt w m n small also) (λ i within. is.digit i within ∙ sym (bit_at_or m n i))

pub complement-number : (w m r : ℕ) → m < 2 ^ w → r < 2 ^ w → IsComplement w m r → r ≡ 2 ^ w - 1 - m
complement-number w m r small fits is =
    let (lower, digits) = complement w m (2 ^ w - 1 - m) small refl in
    same_from_bits_below w r (2 ^ w - 1 - m) fits lower (λ i within. is.digit i within ∙ sym (digits.digit i within))

pub shifted_left-number : (w m d r : ℕ) → d < w → r < 2 ^ w → IsShiftedLeft w m d r → r ≡ m * 2 ^ d % 2 ^ w
shifted_left-number w m d r within fits is =
    let other = shifted_left w m d (m * 2 ^ d % 2 ^ w) within refl in
    same_from_bits_below w r (m * 2 ^ d % 2 ^ w) fits other.0 (λ i below. grind (arith, is.zeros i, other.1.zeros i, is.moved (i - d), other.1.moved (i - d)))

pub shifted_right-number : (w m d r : ℕ) → m < 2 ^ w → r < 2 ^ w → IsShiftedRight w m d r → r ≡ m / 2 ^ d
shifted_right-number w m d r small fits is =
    let other = shifted_right w m d (m / 2 ^ d) small refl in
    same_from_bits_below w r (m / 2 ^ d) fits other.0 (λ i below. grind (arith, is.zeros i, other.1.zeros i, is.moved i, other.1.moved i))

-- 1 moved to a place.
pub one_moved : (w i m : ℕ) → i < w → m ≡ 1 → m * 2 ^ i % 2 ^ w ≡ 2 ^ i
one_moved w i m within is = ap (λ x. x * 2 ^ i % 2 ^ w) is ∙ one_shl i w within
