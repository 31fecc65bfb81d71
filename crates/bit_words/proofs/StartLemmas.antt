-- Where a search of the summary for the first true value may start.
use Rattle.std.proofs.Common.{◌≡◌, ℕ, ◌+◌, ◌*◌, ◌/◌, ◌^◌, ◌<◌, ◌≤◌, Bool, true, false, List, map, get_or, All, sym, ap, ◌∙◌, arith, ⊎_elim, div-add-mod'}
use Rattle.std.proofs.{Common.{div-lt_iff_lt-mul, mul-le-mul_right}, lemmas.{Bool.cases_lt, Nat.div-mul-add}}
use Rattle.bit_blocks.specs.{Mismatches.IsFirstNonzeroBlock, Searches.IsFirstFrom, Storage.{value_at, IsZeroFrom, WritesValue, is_used}}
use Rattle.bit_blocks.proofs.{CompareLemmas.zero_from_digits, SearchLemmas.{first_past_none, unused}, StorageLemmas.value_at-index}
use Rattle.bit_words.{specs.Summary.{short_count, IsFalseBefore, IsSummary}, proofs.SummaryZeros.zero_from_chunk}
use Rattle.bit_blocks.proofs.{UseLemmas.{unused_from_false, used_from_zero}, VectorLemmas.numbers_below}

-- ---- the start is kept

pub false_before_none : (w : ℕ) (ms : List ℕ) → IsFalseBefore w ms 0
false_before_none w ms = record { falses = λ i below. absurd (omega arith) }

-- where no value becomes true
pub false_before_less : (w chunk : ℕ) (ms ns : List ℕ) → ((i : ℕ) → value_at w ms i ≡ false → value_at w ns i ≡ false) → IsFalseBefore w ms chunk → IsFalseBefore w ns chunk
false_before_less w chunk ms ns less start = record { falses = λ i below. less i (start.falses i below) }

-- where one value is written
pub false_before_written : (w i q start chunk : ℕ) (b : Bool) (ms ns : List ℕ) → q ≡ i / w / w → WritesValue w ms ns i b → chunk ≤ start → (b ≡ true → chunk ≤ q) → IsFalseBefore w ms start
    → IsFalseBefore w ns chunk
false_before_written w i q start chunk b ms ns at written back reached before = record {
  falses = λ j below. grind (arith, written.same, written.others j, before.falses j, reached, ap (λ k. k / w / w));
}

-- ---- the blocks of the summary

module _ {X : Type 0} (w : ℕ) (f : X → ℕ) (P : X → Type 0) (xs ss : List X) (pos : 0 < w) (is : IsSummary w f P xs ss) where
  -- those before the start are 0
  chunk_before : (start q : ℕ) → ((x : X) → P x → f x < 2 ^ w) → All P xs → IsFalseBefore w (map f xs) start → q < start → get_or (map f ss) q 0 ≡ 0
  chunk_before start q below each before low =
      zero_from_digits w (get_or (map f ss) q 0) (numbers_below w f P ss below is.packed.each q) (λ j index.
      sym (value_at-index w (map f ss) q j index)
      ∙ is.digit (q * w + j)
      ∙ unused_from_false w (map f xs) (q * w + j) (numbers_below w f P xs below each (q * w + j)) (λ t inside.
      before.falses ((q * w + j) * w + t) (rw (div-mul-add (q * w + j) w t inside, div-mul-add q w j index) low)))

  -- so none is used where those from it on are 0 as well
  pub no_chunk : (start : ℕ) → ((x : X) → P x → f x < 2 ^ w) → All P xs → IsFalseBefore w (map f xs) start → ((q : ℕ) → start ≤ q → get_or (map f ss) q 0 ≡ 0) → (i : ℕ)
      → value_at w (map f xs) i ≡ false
  no_chunk start below each before none i =
      ⊎_elim
      (λ (low : i / w / w < start). before.falses i low)
      (λ (from : start ≤ i / w / w). unused w (map f xs) i pos (used_from_zero _ (zero_from_chunk w f P xs ss is (i / w) (none (i / w / w) from))))
      (cases_lt (i / w / w) start)

  -- and the first that is not from it on is the first
  pub first_chunk : (start chunk : ℕ) → ((x : X) → P x → f x < 2 ^ w) → All P xs → IsFalseBefore w (map f xs) start → IsFirstNonzeroBlock (map f ss) start chunk
      → IsFirstNonzeroBlock (map f ss) 0 chunk
  first_chunk start chunk below each before first = record {
    reached = omega arith;
    below = λ q from low. ⊎_elim (λ (early : q < start). chunk_before start q below each before early) (λ (late : start ≤ q). first.below q late low) (cases_lt q start);
    here = first.here;
  }

  -- a search may start there
  pub false_before_chunk : (chunk : ℕ) → IsFirstNonzeroBlock (map f ss) 0 chunk → IsFalseBefore w (map f xs) chunk
  false_before_chunk chunk first = record {
    falses = λ i low. unused w (map f xs) i pos (used_from_zero _ (zero_from_chunk w f P xs ss is (i / w) (first.below (i / w / w) (omega arith) low)));
  }

  -- the first bit that it has is about the first block that is not 0
  pub first_used : (chunk k : ℕ) → IsFirstNonzeroBlock (map f ss) 0 chunk → IsFirstFrom (value_at w (map f ss)) (chunk * w) k → IsFirstFrom (is_used (map f xs)) 0 k
  first_used chunk k first found = record {
    passes = sym (is.digit k) ∙ found.passes;
    reached = omega arith;
    between = λ j from low. ⊎_elim
        (λ (early : j / w < chunk). used_from_zero _ (zero_from_chunk w f P xs ss is j (first.below (j / w) (omega arith) early)))
        (λ (late : chunk ≤ j / w). sym (is.digit j) ∙ found.between j (let le = mul-le-mul_right w late in omega (arith, le, div-add-mod' j w)) low)
        (cases_lt (j / w) chunk);
  }

-- the first value of the first block that is not 0 is the first
pub first_of_first : (w k i : ℕ) (ms : List ℕ) → 0 < w → IsFirstFrom (is_used ms) 0 k → IsFirstFrom (value_at w ms) (k * w) i → IsFirstFrom (value_at w ms) 0 i
first_of_first w k i ms pos used found =
    first_past_none 0 (k * w) i (value_at w ms) (omega arith) (λ j from low.
    unused w ms j pos (used.between (j / w) (omega arith) ((div-lt_iff_lt-mul pos).1 low))) found

-- ---- a list that is cut, or grows

pub cut_less : (w n : ℕ) (ms ns : List ℕ) → ((i : ℕ) → i < n → value_at w ns i ≡ value_at w ms i) → IsZeroFrom w ns n → (i : ℕ) → value_at w ms i ≡ false → value_at w ns i ≡ false
cut_less w n ms ns kept tail i none =
    ⊎_elim (λ (inside : i < n). kept i inside ∙ none) (λ (past : n ≤ i). tail.zero_tail i past) (cases_lt i n)

-- the start stays only where no value becomes true
pub grown_start : (w n m chunk old result : ℕ) (bit : Bool) {ms ns : List ℕ} → (0 < result → (result ≡ chunk) × (bit ≡ false) × (short_count w < old))
    → ((i : ℕ) → i < n → value_at w ns i ≡ value_at w ms i) → ((i : ℕ) → n ≤ i → i < m → value_at w ns i ≡ bit) → IsZeroFrom w ns m → (short_count w < old → IsFalseBefore w ms chunk)
    → IsFalseBefore w ns result
grown_start w n m chunk old result bit {ms} {ns} kept_start kept added tail before = record {
  falses = λ i below.
      let stays = kept_start (omega (arith, below)) in
      let none : i < n → value_at w ns i ≡ false = λ inside. kept i inside ∙ (before stays.2).falses i (rw (← stays.0) below) in
      let new : n ≤ i → i < m → value_at w ns i ≡ false = λ from inside. added i from inside ∙ stays.1 in
      grind (arith, none, new, tail.zero_tail i);
}

-- ---- the first value taken out

pub true_within : (w n i : ℕ) (ms : List ℕ) → IsZeroFrom w ms n → value_at w ms i ≡ true → i < n
true_within w n i ms tail one = grind (arith, tail.zero_tail i)
