-- Whether a set that is made of bytes has a number.
use Rattle.std.{proofs.{Common.{◌≡◌, ◌==◌, ℕ, ◌+◌, ◌-◌, ◌*◌, ◌/◌, ◌%◌, ◌<◌, ◌↔◌, IsTrue, Bool, false, List, get_or, div-add-mod', mod-lt, refl, sym, ap, ◌∙◌, arith}, lemmas.Bool.{eqb-true, eq-eqb}}, specs.Int.bit_at}
use Rattle.bit_blocks.{specs.Bits.{blocks_of, digit_of, values_of_bytes}, proofs.{BitsLemmas.{blocks_of-digit, read_back}, ByteLemmas.{byte_value-is, get_or-values_of_bytes}}}
use Rattle.set_algebra.{specs.{Members.{HasBitsOf, HasLowBitsOf}, Sets.{has, elements}}, proofs.SetLemmas.has-elements}

pub has-values_of_bytes : (bytes : List ℕ) (q r : ℕ) → r < 8 → IsTrue (has (elements (values_of_bytes bytes)) (8 * q + r)) ↔ (bit_at (get_or bytes q 0) (7 - r) ≡ 1)
has-values_of_bytes bytes q r low =
    let is = has-elements (values_of_bytes bytes) (8 * q + r) ∙ get_or-values_of_bytes bytes (8 * q + r) ∙ byte_value-is bytes (8 * q + r) q r (omega arith) (omega arith) in
    (λ one. eqb-true (bit_at (get_or bytes q 0) (7 - r)) 1 (sym is ∙ one), λ one. is ∙ eq-eqb (bit_at (get_or bytes q 0) (7 - r)) 1 one)

-- and where the lowest digit of each byte is first
pub has-blocks_of : (values : List Bool) (bytes : List ℕ) (q r : ℕ) → blocks_of 8 values ≡ bytes → r < 8 → IsTrue (has (elements values) (8 * q + r)) ↔ (bit_at (get_or bytes q 0) r ≡ 1)
has-blocks_of values bytes q r is low =
    let value = get_or values (8 * q + r) false in
    let member : has (elements values) (8 * q + r) ≡ value = has-elements values (8 * q + r) in
    let digit : bit_at (get_or bytes q 0) r ≡ digit_of value =
    ap (λ ms. bit_at (get_or ms q 0) r) (sym is)
    ∙ blocks_of-digit 8 q r values low
    ∙ ap (λ k. digit_of (get_or values k false)) (let e : q * 8 + r ≡ 8 * q + r = omega arith in e) in
    (λ one. digit ∙ ap digit_of (sym member ∙ one), λ one. member ∙ sym (read_back value) ∙ eq-eqb (digit_of value) 1 (sym digit ∙ one))

-- the same of each number
pub bits_of_bytes : (bytes : List ℕ) → HasBitsOf (elements (values_of_bytes bytes)) bytes
bits_of_bytes bytes n = has-elements (values_of_bytes bytes) n ∙ get_or-values_of_bytes bytes n ∙ byte_value-is bytes n (n / 8) (n % 8) refl refl

pub low_bits_of_bytes : (values : List Bool) (bytes : List ℕ) → blocks_of 8 values ≡ bytes → HasLowBitsOf (elements values) bytes
low_bits_of_bytes values bytes is n =
    let value = get_or values n false in
    let digit : bit_at (get_or bytes (n / 8) 0) (n % 8) ≡ digit_of value =
    ap (λ ms. bit_at (get_or ms (n / 8) 0) (n % 8)) (sym is)
    ∙ blocks_of-digit 8 (n / 8) (n % 8) values (mod-lt n (omega arith))
    ∙ ap (λ k. digit_of (get_or values k false)) (div-add-mod' n 8) in
    has-elements values n ∙ sym (read_back value) ∙ ap (λ d. d == 1) (sym digit)
