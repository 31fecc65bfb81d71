-- Where blocks differ, by their digits.
use Rattle.std.proofs.Common.{◌≡◌, ◌≢◌, ℕ, ◌+◌, ◌-◌, ◌^◌, ◌<◌, ◌≤◌, ◌↔◌, Bool, true, false, not, eqb, refl, sym, ◌∙◌, arith}
use Rattle.std.proofs.lemmas.Nat.{Bits.{bit_at-lt, bit_at-zero, bit_at_above, same_from_bits_below}, pow_pos}
use Rattle.std.specs.{Bool.{OnTrue, OnFalse}, Int.bit_at}
use borrow.Author.Tests.{eqb-true, eqb-false}
use Rattle.bit_blocks.{specs.{Digits.{IsEither, IsDifferent, IsShiftedRight}, Lowest.IsLowest, Mismatches.IsLowestMismatch}, proofs.LowestLemmas.lowest_found}

-- ---- the digits of one block

-- an or is 0 where both sides are
pub none_of_either : (w m n r : ℕ) → m < 2 ^ w → n < 2 ^ w → IsEither w m n r → r ≡ 0 → (m ≡ 0) × (n ≡ 0)
none_of_either w m n r small also is none = (
  same_from_bits_below w m 0 small (pow_pos w) (λ i within. grind (arith, is.digit i within, none, bit_at-zero)),
  same_from_bits_below w n 0 also (pow_pos w) (λ i within. grind (arith, is.digit i within, none, bit_at-zero)),
)

-- an exclusive or is 0 where both sides are one number
pub none_of_different : (w m n r : ℕ) → m < 2 ^ w → n < 2 ^ w → IsDifferent w m n r → r ≡ 0 → m ≡ n
none_of_different w m n r small also is none = same_from_bits_below w m n small also (λ i within. grind (arith, is.digit i within, none, bit_at-zero, bit_at-lt))

pub either_of_none : (w m n r : ℕ) → r < 2 ^ w → IsEither w m n r → m ≡ 0 → n ≡ 0 → r ≡ 0
either_of_none w m n r small is first second = same_from_bits_below w r 0 small (pow_pos w) (λ i within. grind (arith, is.digit i within, first, second, bit_at-zero))

pub different_of_same : (w m n r : ℕ) → r < 2 ^ w → IsDifferent w m n r → m ≡ n → r ≡ 0
different_of_same w m n r small is same = same_from_bits_below w r 0 small (pow_pos w) (λ i within. grind (arith, is.digit i within, same, bit_at-zero))

-- the digits of numbers that differ do not all agree, so that their exclusive or is not 0
pub different_some : (w m n r : ℕ) → m < 2 ^ w → n < 2 ^ w → m ≢ n → IsDifferent w m n r → 0 < r
different_some w m n r small also mismatch is = grind (arith, none_of_different w m n r small also is, mismatch)

pub lowest_mismatch_is : (w m n r i : ℕ) → IsDifferent w m n r → IsLowest r i → i < w → IsLowestMismatch w m n i
lowest_mismatch_is w m n r i is low within = grind (arith, is.digit, low, bit_at-lt)

-- what is moved down and not 0 has a 1 at the place or above it
pub some_moved : (w m d r : ℕ) → r < 2 ^ w → IsShiftedRight w m d r → r ≢ 0 → (j : ℕ) × (d ≤ j) × (j < w) × (bit_at m j ≡ 1)
some_moved w m d r small is some =
    let found = lowest_found w r (omega (arith, some)) small in
    let in_block : found.0 + d < w = grind (arith, is.zeros found.0, found.1.lowest.one, found.1.within) in
    (found.0 + d, omega arith, in_block, sym (is.moved found.0 in_block) ∙ found.1.lowest.one)

pub none_moved : (w m d r : ℕ) → m < 2 ^ w → IsShiftedRight w m d r → r ≡ 0 → (j : ℕ) → d ≤ j → bit_at m j ≡ 0
none_moved w m d r small is none j from = grind (arith, is.moved (j - d), none, bit_at-zero, bit_at_above m w j small)

-- what a test that two numbers are the same says
pub on_mismatch : (a b : ℕ) (c : Bool) (P : Type 0) → c ≡ eqb a b → (a ≢ b → P) → OnTrue (not c) P
on_mismatch a b true P is then = tt
on_mismatch a b false P is then = then (eqb-false a b (sym is))

pub on_alike : (a b : ℕ) (c : Bool) (P : Type 0) → c ≡ eqb a b → (a ≡ b → P) → OnFalse (not c) P
on_alike a b true P is then = then (eqb-true a b (sym is))
on_alike a b false P is then = tt

-- what a test says that a block is 0, of what holds just where it is 0
pub on_none : (P : Type 0) (a b : ℕ) (c : Bool) → c ≡ eqb a b → b ≡ 0 → (a ≡ 0) ↔ P → c ≡ true → P
on_none P a b c is zero tells same = tells.0 (eqb-true a b (sym is ∙ same) ∙ zero)

pub on_some : (P : Type 0) (a b : ℕ) (c : Bool) → c ≡ eqb a b → b ≡ 0 → (a ≡ 0) ↔ P → c ≡ false → P → ⊥
on_some P a b c is zero tells other holds = eqb-false a b (sym is ∙ other) (tells.1 holds ∙ sym zero)

pub tells_none : (P : Type 0) (a b : ℕ) (c : Bool) → c ≡ eqb a b → b ≡ 0 → (a ≡ 0) ↔ P → P → c ≡ true
tells_none P a b true is zero tells holds = refl
tells_none P a b false is zero tells holds = absurd (on_some P a b false is zero tells refl holds)
