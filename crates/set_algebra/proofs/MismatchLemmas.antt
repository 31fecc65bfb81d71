-- What the first mismatch of lists of blocks says of the sets that they hold.
use Rattle.std.proofs.Common.{◌≡◌, ℕ, ◌+◌, ◌*◌, ◌/◌, ◌%◌, ◌^◌, ◌<◌, Bool, false, not, eqb, List, get_or, length, sym, ap, ◌∙◌, ◌↔◌, inl, inr, arith}
use Rattle.std.proofs.lemmas.Bool.{cases_eq, Decides.nat_tests}
use Rattle.std.proofs.{lemmas.Nat.{Bits.{bit_at-lt, same_from_bits_below}}, Math.Nat.{div-add-mod', mod-lt, lt_of_mul-lt-mul_right}}
use Rattle.std.{specs.Cmp.Lexicographic.bytes_decides}
use Rattle.std.specs.{Prelude.IsTrue, Int.bit_at}
use Rattle.bit_blocks.{specs.{Bits.{blocks_of, digit_of}, Mismatches.{IsFirstBlockMismatch, IsLowestMismatch}}, proofs.BitsLemmas.{blocks_of-digit, blocks_of-lt, read_back}}
use Rattle.set_algebra.specs.{Sets.{elements, has}, Mismatches.IsFirstMismatch, Order.same_sets}
use Rattle.set_algebra.proofs.{OrderLemmas.same_where_all_agree, SetLemmas.has-elements, SubsetLemmas.same_tests, ValueLemmas.has-within}

-- ---- the blocks of a list of truth values

-- a number is an element exactly where the digit at its place is 1
pub has-index : (w q j : ℕ) (values : List Bool) → j < w → has (elements values) (q * w + j) ≡ eqb (bit_at (get_or (blocks_of w values) q 0) j) 1
has-index w q j values within =
    has-elements values (q * w + j) ∙ sym (ap (λ d. eqb d 1) (blocks_of-digit w q j values within) ∙ read_back (get_or values (q * w + j) false))

pub has-number : (w k : ℕ) (values : List Bool) → 0 < w → has (elements values) k ≡ eqb (bit_at (get_or (blocks_of w values) (k / w) 0) (k % w)) 1
has-number w k values pos = ap (has (elements values)) (sym (div-add-mod' k w)) ∙ has-index w (k / w) (k % w) values (mod-lt k pos)

-- blocks that agree hold the same set
pub all_alike : (w : ℕ) (xs ys : List Bool) → 0 < w → ((k : ℕ) → get_or (blocks_of w xs) k 0 ≡ get_or (blocks_of w ys) k 0) → (k : ℕ) → has (elements xs) k ≡ has (elements ys) k
all_alike w xs ys pos same k = has-number w k xs pos ∙ ap (λ m. eqb (bit_at m (k % w)) 1) (same (k / w)) ∙ sym (has-number w k ys pos)

-- and a set has but one list of blocks, up to zeros at its end
alike_where_same : (w q : ℕ) (xs ys : List Bool) → ((k : ℕ) → has (elements xs) k ≡ has (elements ys) k) → get_or (blocks_of w xs) q 0 ≡ get_or (blocks_of w ys) q 0
alike_where_same w q xs ys same =
    same_from_bits_below w _ _ (blocks_of-lt w q xs) (blocks_of-lt w q ys) (λ j within.
    blocks_of-digit w q j xs within
    ∙ ap digit_of (sym (has-elements xs (q * w + j)) ∙ same (q * w + j) ∙ has-elements ys (q * w + j))
    ∙ sym (blocks_of-digit w q j ys within))

-- so a comparison of blocks compares sets
pub same_by_blocks : (w : ℕ) (xs ys : List Bool) (b : Bool) → 0 < w → IsTrue b ↔ ((k : ℕ) → get_or (blocks_of w xs) k 0 ≡ get_or (blocks_of w ys) k 0) → b ≡ same_sets (elements xs) (elements ys)
same_by_blocks w xs ys b pos tells =
    same_tests b (same_sets (elements xs) (elements ys)) (λ is. sym (same_where_all_agree xs ys (all_alike w xs ys pos (tells.0 is))))
    (λ same. tells.1 (λ q. alike_where_same w q xs ys (λ k. ap (λ u. has u k) ((bytes_decides (elements xs) (elements ys)).0 same))))

one_of_two : (a b : ℕ) → a < 2 → b < 2 → a + b ≡ 1 → eqb a 1 ≡ not (eqb b 1)
one_of_two a b small also sum = grind (arith, nat_tests)

-- the first block that differs, and the lowest digit there, give the first number that differs
pub first_mismatch_is : (w at i : ℕ) (xs ys : List Bool) → 0 < w → IsFirstBlockMismatch (blocks_of w xs) (blocks_of w ys) at
    → IsLowestMismatch w (get_or (blocks_of w xs) at 0) (get_or (blocks_of w ys) at 0) i
    → IsFirstMismatch (elements xs) (elements ys) (at * w + i)
first_mismatch_is w at i xs ys pos first lowest = record {
  below = λ k below.
      has-number w k xs pos
      ∙ ap (λ d. eqb d 1) (elim (cases_eq (k / w) at) as (λ _. bit_at (get_or (blocks_of w xs) (k / w) 0) (k % w) ≡ bit_at (get_or (blocks_of w ys) (k / w) 0) (k % w)) [
        | inl here ↦ rw here (lowest.below (k % w) (omega (arith, div-add-mod' k w, ap (λ q. q * w) here)))
        | inr other ↦ ap (λ m. bit_at m (k % w))
            (first.below (k / w) (let reached : k / w < at + 1 = lt_of_mul-lt-mul_right w (omega (arith, div-add-mod' k w, below, lowest.within)) in omega (arith, other, reached)))
      ])
      ∙ sym (has-number w k ys pos);
  here =
      has-index w at i xs lowest.within
      ∙ one_of_two _ _ (bit_at-lt (get_or (blocks_of w xs) at 0) i) (bit_at-lt (get_or (blocks_of w ys) at 0) i) lowest.here
      ∙ ap not (sym (has-index w at i ys lowest.within));
}

-- it is below one of the lengths
pub first_within : (xs ys : List Bool) (n : ℕ) → IsFirstMismatch (elements xs) (elements ys) n → length xs < 2 ^ 64 → length ys < 2 ^ 64 → n < 2 ^ 64
first_within xs ys n first left right = let one = has-within xs n in let other = has-within ys n in let apart = first.here in grind arith
