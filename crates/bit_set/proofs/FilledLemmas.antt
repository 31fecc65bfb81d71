-- Lemmas on bits that are filled block by block, and on the last of some blocks.
use Rattle.std.proofs.Common.{◌≡◌, ◌≢◌, [], ℕ, ◌+◌, ◌-◌, ◌*◌, ◌/◌, ◌%◌, ◌^◌, ◌<◌, Bool, true, false, List, length, get_or, set, take, replicate, All, sym, ap, ◌∙◌, ⊎_elim, pow_pos, length-take}
use Rattle.std.proofs.Common.{length-set, get_or-take, get_or-set_same, get_or-set_other, arith}
use Rattle.std.{proofs.{lemmas.{Bool.{cases_eq, Decides.nat_tests}, Nat.{Bits.bit_at-zero, div-mul-add}, List.get_or_past}, Math.Nat.{div-add-mod', mod-lt}}, specs.Int.bit_at}
use Rattle.bit_blocks.specs.{Bits.{blocks_for, blocks_of, digit_of}, Lowest.{IsLowest, IsCleared}, Digits.is_one, Storage.{value_at, IsZeroFrom}}
use Rattle.bit_blocks.proofs.{BitsLemmas.{blocks_of-digit, whole_before}, Masks.is_one-zero}
use Rattle.bit_blocks.proofs.StorageLemmas.{blocks-values_of, value_at-is, value_at-past, value_at-index, values_of-same}
use Rattle.set_algebra.proofs.SetLemmas.{get_or_padded}
use Rattle.bit_set.specs.{Json.HasZeroTail, Entries.IsPartlyPut}

-- ---- one block

pub put_nothing : (w index m : ℕ) (values : List Bool) → ((j : ℕ) → j < w → get_or values (index + j) false ≡ false) → IsPartlyPut w index m m values values
put_nothing w index m values falses = grind arith

-- where no digit is left, the whole block is put
pub put_all : (w index whole left : ℕ) (old new : List Bool) → IsPartlyPut w index whole left old new → left ≡ 0 → (j : ℕ) → j < w → get_or new (index + j) false ≡ is_one whole j
put_all w index whole left old new put none j within = let value = put.values j within in let zero = bit_at-zero j in grind (arith, nat_tests)

-- the lowest digit that is left is one of the whole block
pub lowest_is_one : (w index whole left i : ℕ) (old new : List Bool) → IsPartlyPut w index whole left old new → IsLowest left i → i < w → bit_at whole i ≡ 1
lowest_is_one w index whole left i old new put low within = let value = put.values i within in let one = low.one in grind (arith, nat_tests)

pub put_lowest : (w index whole left rest i : ℕ) (old new : List Bool) → IsPartlyPut w index whole left old new → IsLowest left i → i < w → IsCleared w left i rest → index + i < length new
    → IsPartlyPut w index whole rest old (set new (index + i) true)
put_lowest w index whole left rest i old new put low within cleared inside = record {
  values = λ j below.
      let value = put.values j below in
      let kept = cleared.kept j below in
      let one = low.one in
      let here = get_or-set_same new (index + i) true false inside in
      let apart = get_or-set_other new (index + i) (index + j) true false in
      grind (arith, nat_tests);
  others = λ k apart. get_or-set_other new (index + i) k true false (apart i within) ∙ put.others k apart;
  long = length-set new (index + i) true ∙ put.long;
}

-- ---- block by block

-- there are just the values of the first k blocks
pub filled_none : (w n i : ℕ) (ms : List ℕ) → get_or (replicate n false) i false ≡ value_at w (take 0 ms) i
filled_none w n i ms = get_or_padded [] n i ∙ sym (value_at-past w (take 0 ms) i (omega arith))

before_or_past : (k q : ℕ) (ms : List ℕ) → q ≢ k → get_or (take k ms) q 0 ≡ get_or (take (k + 1) ms) q 0
before_or_past k q ms apart =
    grind (arith, length-take k ms, length-take (k + 1) ms, get_or-take k ms q 0, get_or-take (k + 1) ms q 0, get_or_past (take k ms) q 0, get_or_past (take (k + 1) ms) q 0)

pub filled_more : (w k : ℕ) (ms : List ℕ) (old new : List Bool) → 0 < w
    → ((i : ℕ) → get_or old i false ≡ value_at w (take k ms) i)
    → ((j : ℕ) → j < w → get_or new (k * w + j) false ≡ is_one (get_or ms k 0) j)
    → ((i : ℕ) → ((j : ℕ) → j < w → i ≢ k * w + j) → get_or new i false ≡ get_or old i false)
    → (i : ℕ) → get_or new i false ≡ value_at w (take (k + 1) ms) i
filled_more w k ms old new pos before here others i =
    ⊎_elim
    (λ at.
    let split : i ≡ k * w + i % w = sym (div-add-mod' i w) ∙ ap (λ q. q * w + i % w) at in
    cc (here (i % w) (mod-lt i pos), get_or-take (k + 1) ms k 0 (omega arith), value_at-is w (take (k + 1) ms) i))
    (λ apart.
    let old_value = others i (λ j within e. apart (ap (λ x. x / w) e ∙ div-mul-add k w j within)) ∙ before i in
    cc (before_or_past k (i / w) ms apart, value_at-is w (take k ms) i, value_at-is w (take (k + 1) ms) i))
    (cases_eq (i / w) k)

-- those of the next block are still false
pub next_is_false : (w k j : ℕ) (ms : List ℕ) (values : List Bool) → ((i : ℕ) → get_or values i false ≡ value_at w (take k ms) i) → j < w → get_or values (k * w + j) false ≡ false
next_is_false w k j ms values before within = cc (before (k * w + j), value_at-index w (take k ms) k j within, get_or_past (take k ms) k 0 (omega (arith, length-take k ms)), is_one-zero j)

-- ---- the last block

-- each block begins below the length
pub block_begins : (w n c k : ℕ) → 0 < w → c ≡ blocks_for w n → k < c → k * w < n
block_begins w n c k pos count within = whole_before w n k pos (omega (arith, count, within))

pub zero_tail_from : (w n : ℕ) (ms : List ℕ) → 0 < w → length ms ≡ blocks_for w n → HasZeroTail w ms n → IsZeroFrom w ms n
zero_tail_from w n ms pos count zero_tail = record {
  zero_tail = λ i past.
      let split = div-add-mod' i w in
      let low = mod-lt i pos in
      let begins = block_begins w n (length ms) (i / w + 1) pos count in
      let last = zero_tail.tail (i % w) low in
      grind (arith, nat_tests, value_at-is w ms i, value_at-past w ms i);
}

-- a digit that is 1 represents an index below the length
pub one_is_within : (w n k j : ℕ) (ms : List ℕ) → IsZeroFrom w ms n → j < w → bit_at (get_or ms k 0) j ≡ 1 → k * w + j < n
one_is_within w n k j ms zero_tail within one = let value = value_at-index w ms k j within in let past = zero_tail.zero_tail (k * w + j) in grind (arith, nat_tests)

each_below : (w k : ℕ) (ms : List ℕ) → All (λ m. m < 2 ^ w) ms → get_or ms k 0 < 2 ^ w
each_below w k ms below = let some = below k 0 in let past = get_or_past ms k 0 in let least : 0 < 2 ^ w = pow_pos w in grind arith

-- a list of truth values that has just those of some blocks has those blocks
pub blocks_of_filled : (w n : ℕ) (ms : List ℕ) (values : List Bool) → 0 < w → length values ≡ n → length ms ≡ blocks_for w n → All (λ m. m < 2 ^ w) ms → HasZeroTail w ms n
    → ((i : ℕ) → get_or values i false ≡ value_at w ms i) → blocks_of w values ≡ ms
blocks_of_filled w n ms values pos long count below zero_tail filled =
    ap (blocks_of w) (sym (values_of-same w ms n values long (λ i within. sym (filled i))))
    ∙ sym (blocks-values_of w ms n pos count (λ k. each_below w k ms below) (zero_tail_from w n ms pos count zero_tail))

-- and the blocks of a list are 0 past the length
pub blocks_of_zero_tail : (w : ℕ) (values : List Bool) → HasZeroTail w (blocks_of w values) (length values)
blocks_of_zero_tail w values = record {
  tail = λ j within past. blocks_of-digit w (length (blocks_of w values) - 1) j values within ∙ ap digit_of (get_or_past values _ false past);
}
