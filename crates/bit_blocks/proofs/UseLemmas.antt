-- Which blocks are not 0, by their values.
use Rattle.std.proofs.Common.{◌≡◌, ℕ, ◌+◌, ◌*◌, ◌^◌, ◌<◌, ◌≤◌, true, false, not, ◌==◌, List, map, length, get_or, sym, ap, ◌∙◌, arith}
use Rattle.std.proofs.lemmas.{Bool.Decides.nat_tests, List.{get_or_past, length-map}, Nat.Bits.same_from_bits_below}
use Rattle.bit_blocks.specs.{Bits.blocks_of, Storage.{value_at, values_of, IsPacked, is_used}}
use Rattle.bit_blocks.proofs.{CompareLemmas.{zero_from_digits, digit_from_zero}, StorageLemmas.{blocks-values_of, same_digit, value_at-index}}
use Rattle.bit_blocks.proofs.VectorLemmas.{numbers_below}

-- the blocks of a packed list are those of its values
pub packed_blocks : {X : Type 0} (w n : ℕ) (f : X → ℕ) (P : X → Type 0) (xs : List X) → 0 < w → ((x : X) → P x → f x < 2 ^ w) → IsPacked w f P xs n → map f xs ≡ blocks_of w (values_of w (map f xs) n)
packed_blocks w n f P xs pos below packed = blocks-values_of w (map f xs) n pos (rw length-map packed.count) (numbers_below w f P xs below packed.each) packed.tail

-- ---- whether a block is 0

pub used_from_zero : (n : ℕ) → n ≡ 0 → not (n == 0) ≡ false
used_from_zero n z = ap (λ m. not (m == 0)) z

pub zero_from_unused : (n : ℕ) → not (n == 0) ≡ false → n ≡ 0
zero_from_unused n h = grind (arith, nat_tests)

-- past the blocks none is
pub used_past : (ms : List ℕ) (k : ℕ) → length ms ≤ k → is_used ms k ≡ false
used_past ms k past = used_from_zero _ (get_or_past ms k 0 past)

-- a block with a 1 is not 0
pub used_from_true : (w : ℕ) (ms : List ℕ) (k j : ℕ) → j < w → value_at w ms (k * w + j) ≡ true → is_used ms k ≡ true
used_from_true w ms k j index one = grind (arith, value_at-index w ms k j index, digit_from_zero (get_or ms k 0) j)

-- one with no 1 is
pub unused_from_false : (w : ℕ) (ms : List ℕ) (k : ℕ) → get_or ms k 0 < 2 ^ w → ((j : ℕ) → j < w → value_at w ms (k * w + j) ≡ false) → is_used ms k ≡ false
unused_from_false w ms k small falses =
    used_from_zero _ (zero_from_digits w _ small (λ j index. sym (value_at-index w ms k j index) ∙ falses j index))

-- and a block that is 0 has none
pub false_from_unused : (w : ℕ) (ms : List ℕ) (k j : ℕ) → j < w → is_used ms k ≡ false → value_at w ms (k * w + j) ≡ false
false_from_unused w ms k j index none = value_at-index w ms k j index ∙ digit_from_zero _ j (zero_from_unused _ none)

-- blocks of the same values are the same
pub same_block : (w : ℕ) (ms ns : List ℕ) (k : ℕ) → get_or ms k 0 < 2 ^ w → get_or ns k 0 < 2 ^ w
    → ((j : ℕ) → j < w → value_at w ms (k * w + j) ≡ value_at w ns (k * w + j)) → get_or ms k 0 ≡ get_or ns k 0
same_block w ms ns k small also same =
    same_from_bits_below w _ _ small also (λ j index. same_digit _ _ j (sym (value_at-index w ms k j index) ∙ same j index ∙ value_at-index w ns k j index))

pub same_use : (w : ℕ) (ms ns : List ℕ) (k : ℕ) → get_or ms k 0 < 2 ^ w → get_or ns k 0 < 2 ^ w
    → ((j : ℕ) → j < w → value_at w ms (k * w + j) ≡ value_at w ns (k * w + j)) → is_used ms k ≡ is_used ns k
same_use w ms ns k small also same = ap (λ m. not (m == 0)) (same_block w ms ns k small also same)

-- ---- a summary from its digits
