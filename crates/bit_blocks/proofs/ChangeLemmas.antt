-- What a write of one block does to the value at every index.
use Rattle.std.proofs.Common.{◌≡◌, ◌≢◌, true, false, ℕ, ◌+◌, ◌*◌, ◌/◌, ◌%◌, ◌^◌, ◌<◌, ◌≤◌, ◌==◌, Bool, ◌&&◌, ◌||◌, nat_lt}
use Rattle.std.proofs.Common.{nat_le, List, length, get_or, set, refl, sym, ap, ◌∙◌, arith, div-add-mod', mod-lt}
use Rattle.std.proofs.Common.{div-lt_iff_lt-mul, div-mul-le_self}
use Rattle.std.proofs.lemmas.{Bool.Decides.nat_tests, Nat.{Bits.same_from_bits_below, div-mul-add, mod-mul-add}, List.get_or-set_same}
use mathlib.Core.Bool.{beq}
use Rattle.bit_blocks.specs.{Bits.blocks_for, Digits.is_one, Lowest.{IsCleared, IsLowest}, Storage.{value_at, WritesValue}}
use Rattle.bit_blocks.proofs.StorageLemmas.{same_digit, value_at-is, value_at-past, value_at-set_same, value_at-set_other}
use Rattle.bit_blocks.proofs.BitsLemmas.{index_below}

-- ---- within one block, places follow indexes

same_index : (w i j : ℕ) → i / w ≡ j / w → i % w ≡ j % w → i ≡ j
same_index w i j e f = rw (← div-add-mod' i w) (rw (← div-add-mod' j w) (rw (e, f) refl))

pub nat_le-indexes : (w i j : ℕ) → j / w ≡ i / w → nat_le i j ≡ nat_le (i % w) (j % w)
nat_le-indexes w i j e = let p = ap (λ q. q * w) e in let a = div-add-mod' i w in let b = div-add-mod' j w in grind (arith, nat_tests)

pub nat_lt-indexes : (w i j : ℕ) → i / w ≡ j / w → nat_lt i j ≡ nat_lt (i % w) (j % w)
nat_lt-indexes w i j e = let p = ap (λ q. q * w) e in let a = div-add-mod' i w in let b = div-add-mod' j w in grind (arith, nat_tests)

-- ---- one block written

pub written_same : (w : ℕ) (ms ns : List ℕ) (k m i : ℕ) → ns ≡ set ms k m → k < length ms → i / w ≡ k → value_at w ns i ≡ is_one m (i % w)
written_same w ms ns k m i e h p = ap (λ xs. value_at w xs i) e ∙ value_at-set_same w ms k m i h p

pub written_other : (w : ℕ) (ms ns : List ℕ) (k m i : ℕ) → ns ≡ set ms k m → i / w ≢ k → value_at w ns i ≡ value_at w ms i
written_other w ms ns k m i e p = ap (λ xs. value_at w xs i) e ∙ value_at-set_other w ms k m i p

-- the block is that
pub put_read : (ms ns : List ℕ) (k n : ℕ) → k < length ms → ns ≡ set ms k n → n ≡ get_or ns k 0
put_read ms ns k n h e = sym (ap (λ xs. get_or xs k 0) e ∙ get_or-set_same ms k n 0 h)

-- the value at an index, by the block that was read
pub read_at : (w : ℕ) (ms : List ℕ) (k m i : ℕ) → m ≡ get_or ms k 0 → i / w ≡ k → value_at w ms i ≡ is_one m (i % w)
read_at w ms k m i e p = value_at-is w ms i ∙ ap (λ x. is_one x (i % w)) (ap (λ q. get_or ms q 0) p ∙ sym e)

pub value_read : (w : ℕ) (ms : List ℕ) (i k p m : ℕ) → k ≡ i / w → p ≡ i % w → m ≡ get_or ms k 0 → is_one m p ≡ value_at w ms i
value_read w ms i k p m ke pe read = ap (is_one m) pe ∙ sym (read_at w ms k m i read (sym ke))

-- one bit of a block
pub put_bit : (w : ℕ) (ms ns : List ℕ) (i k p m n : ℕ) (b : Bool) → 0 < w → k ≡ i / w → p ≡ i % w → k < length ms
    → m ≡ get_or ms k 0 → ns ≡ set ms k n → is_one n p ≡ b → ((j : ℕ) → j < w → j ≢ p → is_one n j ≡ is_one m j)
    → WritesValue w ms ns i b
put_bit w ms ns i k p m n b pos ke pe h read e digit digits = record {
  same = grind (arith, written_same w ms ns k n i e h, digit);
  others = λ j ne. grind (arith, written_same w ms ns k n j e h, digits (j % w), mod-lt j pos, same_index w j i, read_at w ms k m j read, written_other w ms ns k n j e);
}

pub div_lt : (w i j : ℕ) → 0 < w → i / w < j / w → i < j
div_lt w i j pos h = let a = (div-lt_iff_lt-mul pos).0 h in omega (arith, div-mul-le_self j w)

pub div_le : (w i j : ℕ) → 0 < w → i ≤ j → i / w ≤ j / w
div_le w i j pos h = grind (arith, div_lt w j i pos)

-- ---- ones from the end of the values on, up to another index

-- where that index is in the same block
pub digits_between : (w s t k p e m n : ℕ) → k ≡ t / w → e ≡ t % w
    → ((j : ℕ) → j < w → is_one n j ≡ (is_one m j || (nat_lt j e && nat_le p j))) → (j : ℕ) → j < w
    → is_one n j ≡ (is_one m j || (nat_lt (k * w + j) t && nat_le p j))
digits_between w s t k p e m n ke ee digits j h = grind (arith, nat_tests, div-add-mod' t w, digits j h)

-- where it is in a later one
pub digits_from : (w s t k p m n : ℕ) → 0 < w → k ≡ s / w → s ≤ t → t / w ≢ k
    → ((j : ℕ) → j < w → is_one n j ≡ (is_one m j || nat_le p j)) → (j : ℕ) → j < w
    → is_one n j ≡ (is_one m j || (nat_lt (k * w + j) t && nat_le p j))
digits_from w s t k p m n pos ke forward later digits j h = grind (arith, nat_tests, div_le w s t pos forward, index_below w k j t h, div-mul-le_self t w, digits j h)

-- where the last block is full none of its values is past the end
pub raised_none : (w : ℕ) (ms : List ℕ) (s t count i : ℕ) → 0 < w → count ≡ blocks_for w s → s % w ≡ 0 → i / w < count → value_at w ms i ≡ (value_at w ms i || (nat_lt i t && nat_le s i))
raised_none w ms s t count i pos blocks full within =
    let below : i < s = div_lt w i s pos (omega arith) in
    grind (arith, nat_tests)

pub value_at-raised : (w : ℕ) (ms ns : List ℕ) (s t k p m n : ℕ) → 0 < w → k ≡ s / w → p ≡ s % w → p ≢ 0
    → length ms ≡ blocks_for w s → m ≡ get_or ms k 0 → ns ≡ set ms k n
    → ((j : ℕ) → j < w → is_one n j ≡ (is_one m j || (nat_lt (k * w + j) t && nat_le p j))) → (i : ℕ) → i / w < length ms
    → value_at w ns i ≡ (value_at w ms i || (nat_lt i t && nat_le s i))
value_at-raised w ms ns s t k p m n pos ke pe nz count read e digits i within =
    grind (arith, nat_tests, div-add-mod' i w, written_same w ms ns k n i e, digits (i % w), mod-lt i pos, read_at w ms k m i read, nat_le-indexes w s i, div_lt w i s pos, written_other w ms ns k n i e)

-- ---- zeros from the end of the values on

pub lowered_whole : (w : ℕ) (ms : List ℕ) (len : ℕ) → 0 < w → len % w ≡ 0 → length ms ≡ blocks_for w len → (i : ℕ) → value_at w ms i ≡ (nat_lt i len && value_at w ms i)
lowered_whole w ms len pos z count i = grind (arith, nat_tests, value_at-past w ms i, div_le w len i pos)

pub lowered : (w : ℕ) (ms ns : List ℕ) (len k p m n : ℕ) → 0 < w → k ≡ len / w → p ≡ len % w → p ≢ 0
    → length ms ≡ blocks_for w len → m ≡ get_or ms k 0 → ns ≡ set ms k n
    → ((j : ℕ) → j < w → is_one n j ≡ (nat_lt j p && is_one m j)) → (i : ℕ) → value_at w ns i ≡ (nat_lt i len && value_at w ms i)
lowered w ms ns len k p m n pos ke pe nz count read e digits i =
    grind (arith, nat_tests, written_same w ms ns k n i e, digits (i % w), mod-lt i pos, nat_lt-indexes w i len, read_at w ms k m i read, written_other w ms ns k n i e, value_at-past w ms i, div_le w len i pos)

-- ---- what a bit was, by whether its block changed

pub bit_before : (w m n p : ℕ) (bit r : Bool) → m < 2 ^ w → n < 2 ^ w → is_one n p ≡ bit → ((j : ℕ) → j < w → j ≢ p → is_one n j ≡ is_one m j) → r ≡ (n == m) → beq r bit ≡ is_one m p
bit_before w m n p bit r small also digit others test =
    grind (arith, nat_tests, λ (was : is_one m p ≡ bit). same_from_bits_below w n m also small (λ j within. same_digit n m j (grind (arith, others j within, digit, was))), test, digit)

-- the lowest 1 of a block is left or made 0
pub lowest_left : (w k b i m r n : ℕ) (ms ns : List ℕ) (left : Bool) → 0 < w → b ≡ w → i < w → k < length ms → m ≡ get_or ms k 0 → ns ≡ set ms k n → IsLowest m i → IsCleared w m i r
    → (left ≡ true → n ≡ m) → (left ≡ false → n ≡ r) → WritesValue w ms ns (k * b + i) left
lowest_left w k b i m r n ms ns true pos wide index within read is low cleared stays goes =
    rw wide (put_bit w ms ns (k * w + i) k i m n true pos (sym (div-mul-add k w i index))
    (sym (mod-mul-add k w i index)) within read is (ap (λ x. is_one x i) (stays refl) ∙ ap (λ d. d == 1) low.one)
    (λ j below other. ap (λ x. is_one x j) (stays refl)))
lowest_left w k b i m r n ms ns false pos wide index within read is low cleared stays goes =
    rw wide (put_bit w ms ns (k * w + i) k i m n false pos (sym (div-mul-add k w i index))
    (sym (mod-mul-add k w i index)) within read is (ap (λ x. is_one x i) (goes refl) ∙ ap (λ d. d == 1) cleared.cleared)
    (λ j below other.
    ap (λ x. is_one x j) (goes refl) ∙ ap (λ d. d == 1) (cleared.kept j below other)))
