-- Where a search of a list of blocks ends.
use Rattle.std.proofs.Common.{◌≡◌, ℕ, ◌+◌, ◌-◌, ◌*◌, ◌/◌, ◌%◌, ◌≢◌, ◌^◌, ◌<◌, ◌≤◌, Bool, true, false, not, ◌&&◌, nat_lt}
use Rattle.std.proofs.Common.{nat_le, ◌==◌, List, drop, take, min, length, map, get_or, length-drop, get_or-take, Option}
use Rattle.std.proofs.Common.{Some, None, refl, sym, ap, ◌∙◌, arith, mod-lt, div-add-mod', mul-le-mul_right, subst, ⊎_elim}
use Rattle.std.{proofs.lemmas.{Bool.{cases_lt, eq-eqb, Decides.nat_tests}, List.{get_or_past, length-map, take-map}, Nat.div-mul-add}, specs.Int.bit_at}
use Rattle.bit_blocks.specs.{Digits.{is_one, IsComplement}, Highest.IsHighest, Lowest.IsLowest, Searches.{FindsBefore, FindsFrom, IsFirstFrom, IsLastBefore}, Storage.{value_at, IsZeroFrom, is_used}}
use Rattle.bit_blocks.proofs.{CompareLemmas.digit_from_zero, Masks.is_one-complement, StorageLemmas.value_at-index, UseLemmas.{false_from_unused, used_from_zero}, ZeroLemmas.dropped}

-- ---- tests that say the same

pub finds_from_same : (p q : ℕ → Bool) (n : ℕ) (r : Option ℕ) → ((i : ℕ) → p i ≡ q i) → FindsFrom p n r → FindsFrom q n r
finds_from_same p q n None same none = λ j from. sym (same j) ∙ none j from
finds_from_same p q n (Some i) same first = record {
  passes = sym (same i) ∙ first.passes;
  reached = first.reached;
  between = λ j from before. sym (same j) ∙ first.between j from before;
}

pub finds_before_below : (p q : ℕ → Bool) (n : ℕ) (r : Option ℕ) → ((i : ℕ) → i < n → p i ≡ q i) → FindsBefore p n r → FindsBefore q n r
finds_before_below p q n None same none = λ j below. sym (same j below) ∙ none j below
finds_before_below p q n (Some i) same last = record {
  passes = sym (same i last.before) ∙ last.passes;
  before = last.before;
  between = λ j past below. sym (same j below) ∙ last.between j past below;
}

pub finds_before_same : (p q : ℕ → Bool) (n : ℕ) (r : Option ℕ) → ((i : ℕ) → p i ≡ q i) → FindsBefore p n r → FindsBefore q n r
finds_before_same p q n r same found = finds_before_below p q n r (λ i _. same i) found

-- ---- what is true is below the length

pub value_fits : (w n : ℕ) (ms : List ℕ) → IsZeroFrom w ms n → n < 2 ^ 64 → (i : ℕ) → value_at w ms i ≡ true → i < 2 ^ 64
value_fits w n ms tail fits i one = grind (arith, tail.zero_tail i)

-- so there is a 0 at the length at most
pub zero_within : (w n len i : ℕ) (ms : List ℕ) → IsZeroFrom w ms len → n ≤ len → IsFirstFrom (λ j. not (value_at w ms j)) n i → i ≤ len
zero_within w n len i ms tail within first =
    let at = tail.zero_tail len (omega arith) in
    let passed = λ (past : len < i). first.between len within past in
    grind (arith, passed)

-- ---- within one block, of which m has what the search looks at

one_from_bit : (m j : ℕ) → bit_at m j ≡ 1 → is_one m j ≡ true
one_from_bit m j one = eq-eqb (bit_at m j) 1 one

none_from_bit : (m j : ℕ) → bit_at m j ≡ 0 → is_one m j ≡ false
none_from_bit m j none = ap (λ d. d == 1) none

-- Of the w numbers from k * w on, `digit` says which pass the test.
module _ (w k p m : ℕ) (test digit : ℕ → Bool) (says : (j : ℕ) → j < w → test (k * w + j) ≡ digit j) where
  at_index : (j : ℕ) → k * w ≤ j → j < k * w + w → test j ≡ digit (j - k * w)
  at_index j from below = ap test (let e : j ≡ k * w + (j - k * w) = omega arith in e) ∙ says (j - k * w) (omega arith)

  pub first_in_block : (i : ℕ) → i < w → ((j : ℕ) → j < w → is_one m j ≡ (nat_le p j && digit j)) → IsLowest m i → IsFirstFrom test (k * w + p) (k * w + i)
  first_in_block i within digits low =
      let here = digits i within in
      let one = one_from_bit m i low.one in
      record {
        passes = says i within ∙ grind (arith, nat_tests);
        reached = grind (arith, nat_tests);
        between = λ j from before.
            let q : ℕ = j - k * w in
            let there = digits q (omega (arith, before, within)) in
            let none = none_from_bit m q (low.zeros q (omega (arith, before, from))) in
            at_index j (omega (arith, from)) (omega (arith, before, within)) ∙ grind (arith, nat_tests);
      }

  pub none_in_block : ((j : ℕ) → j < w → is_one m j ≡ (nat_le p j && digit j)) → m ≡ 0 → (j : ℕ) → k * w + p ≤ j → j < k * w + w → test j ≡ false
  none_in_block digits none j from below =
      let q : ℕ = j - k * w in
      let there = digits q (omega (arith, from, below)) in
      let naught = digit_from_zero m q none in
      at_index j (omega (arith, from)) below ∙ grind (arith, nat_tests)

  pub last_in_block : (i : ℕ) → i < w → p ≤ w → ((j : ℕ) → j < w → is_one m j ≡ (nat_lt j p && digit j)) → IsHighest m i → IsLastBefore test (k * w + p) (k * w + i)
  last_in_block i within inside digits high =
      let here = digits i within in
      let one = one_from_bit m i high.one in
      record {
        passes = says i within ∙ grind (arith, nat_tests);
        before = grind (arith, nat_tests);
        between = λ j past below.
            let q : ℕ = j - k * w in
            let there = digits q (omega (arith, below, inside)) in
            let none = none_from_bit m q (high.zeros q (omega (arith, past))) in
            at_index j (omega (arith, past)) (omega (arith, below, inside)) ∙ grind (arith, nat_tests);
      }

  pub none_before_in_block : p ≤ w → ((j : ℕ) → j < w → is_one m j ≡ (nat_lt j p && digit j)) → m ≡ 0 → (j : ℕ) → k * w ≤ j → j < k * w + p → test j ≡ false
  none_before_in_block inside digits none j from below =
      let q : ℕ = j - k * w in
      let there = digits q (omega (arith, from, below, inside)) in
      let naught = digit_from_zero m q none in
      at_index j from (omega (arith, below, inside)) ∙ grind (arith, nat_tests)

-- ---- the block k that a number is in, at place p, or one as a whole; b is what `bits()` returned

pub read_block : (w : ℕ) (ms : List ℕ) (k q n j : ℕ) → k ≡ q → n ≡ get_or ms k 0 → j < w → value_at w ms (q * w + j) ≡ is_one n j
read_block w ms k q n j same read within = value_at-index w ms q j within ∙ ap (λ m. is_one m j) (ap (λ x. get_or ms x 0) (sym same) ∙ sym read)

-- and where the search is for what is false
pub read_zeros : (w : ℕ) (ms : List ℕ) (k q n m j : ℕ) → k ≡ q → n ≡ get_or ms k 0 → IsComplement w n m → j < w → not (value_at w ms (q * w + j)) ≡ is_one m j
read_zeros w ms k q n m j same read turned within = ap not (read_block w ms k q n j same read within) ∙ sym (is_one-complement w n m j turned within)

module _ (w : ℕ) (test digit : ℕ → Bool) (n k p m b : ℕ) (says : (j : ℕ) → j < w → test (n / w * w + j) ≡ digit j) (block : k ≡ n / w) (place : p ≡ n % w) where
  pub first_from : (i : ℕ) → b ≡ w → i < w → ((j : ℕ) → j < w → is_one m j ≡ (nat_le p j && digit j)) → IsLowest m i → IsFirstFrom test n (k * b + i)
  first_from i wide within digits low =
      rw (wide, block) (subst (λ x. IsFirstFrom test x (n / w * w + i)) (ap (λ x. n / w * w + x) place ∙ div-add-mod' n w) (first_in_block w (n / w) p m test digit says i within digits low))

  pub none_from : ((j : ℕ) → j < w → is_one m j ≡ (nat_le p j && digit j)) → m ≡ 0 → (j : ℕ) → n ≤ j → j < n / w * w + w → test j ≡ false
  none_from digits none j from below =
      none_in_block w (n / w) p m test digit says digits none j (omega (arith, from, place, div-add-mod' n w)) below

  pub last_before : (i : ℕ) → b ≡ w → 0 < w → i < w → ((j : ℕ) → j < w → is_one m j ≡ (nat_lt j p && digit j)) → IsHighest m i → IsLastBefore test n (k * b + i)
  last_before i wide pos within digits high =
      rw (wide, block) (subst (λ x. IsLastBefore test x (n / w * w + i)) (ap (λ x. n / w * w + x) place ∙ div-add-mod' n w)
      (last_in_block w (n / w) p m test digit says i within (omega (arith, place, mod-lt n pos)) digits high))

  pub none_before : 0 < w → ((j : ℕ) → j < w → is_one m j ≡ (nat_lt j p && digit j)) → m ≡ 0 → (j : ℕ) → n / w * w ≤ j → j < n → test j ≡ false
  none_before pos digits none j from below =
      none_before_in_block w (n / w) p m test digit says (omega (arith, place, mod-lt n pos)) digits none j from (omega (arith, below, place, div-add-mod' n w))

pub first_of_whole : (w : ℕ) (ms : List ℕ) (k n b i : ℕ) → n ≡ get_or ms k 0 → b ≡ w → i < w → IsLowest n i → IsFirstFrom (value_at w ms) (k * w) (k * b + i)
first_of_whole w ms k n b i read wide within low =
    rw wide (subst (λ x. IsFirstFrom (value_at w ms) x (k * w + i)) (let e : k * w + 0 ≡ k * w = omega arith in e)
    (first_in_block w k 0 n (value_at w ms) (is_one n) (λ j index. read_block w ms k k n j refl read index) i within (λ j index. grind (arith, nat_tests)) low))

pub last_of_whole : (w : ℕ) (ms : List ℕ) (k n b i : ℕ) → n ≡ get_or ms k 0 → b ≡ w → i < w → IsHighest n i → IsLastBefore (value_at w ms) (k * w + w) (k * b + i)
last_of_whole w ms k n b i read wide within high =
    rw wide (last_in_block w k w n (value_at w ms) (is_one n) (λ j index. read_block w ms k k n j refl read index) i within (omega arith) (λ j index. grind (arith, nat_tests)) high)

-- ---- the first block that is not 0, past as many that are

module _ {X : Type 0} (number : X → ℕ) (xs : List X) (n count : ℕ) (zeros : (k : ℕ) → k < count → get_or (map number (drop n xs)) k 0 ≡ 0) where
  -- where these are all that there are
  pub none_used : count ≡ length (drop n xs) → (j : ℕ) → n ≤ j → is_used (map number xs) j ≡ false
  none_used all j from =
      let here = ap (λ i. get_or (map number xs) i 0) (let e : n + (j - n) ≡ j = omega arith in e) in
      used_from_zero _ (grind (arith, here, zeros (j - n), dropped number n (j - n) xs, get_or_past (map number xs) j 0, length-map, length-drop n xs))

  pub first_used_is : get_or (map number (drop n xs)) count 0 ≢ 0 → IsFirstFrom (is_used (map number xs)) n (n + count)
  first_used_is some = record {
    passes = grind (arith, nat_tests, some, dropped number n count xs);
    reached = omega arith;
    between = λ j from before.
        let here = ap (λ i. get_or (map number xs) i 0) (let e : n + (j - n) ≡ j = omega arith in e) in
        used_from_zero _ (sym here ∙ sym (dropped number n (j - n) xs) ∙ zeros (j - n) (omega (arith, from, before)));
  }

-- ---- the last block that is not 0, before as many that are

module _ {X : Type 0} (number : X → ℕ) (xs front : List X) (n m count : ℕ) (is : front ≡ take m xs)
    (most : m ≡ min n (length xs)) (zeros : (k : ℕ) → count ≤ k → get_or (map number front) k 0 ≡ 0) where
  in_front : (k : ℕ) → k < m → get_or (map number front) k 0 ≡ get_or (map number xs) k 0
  in_front k below = ap (λ ys. get_or (map number ys) k 0) is ∙ ap (λ ms. get_or ms k 0) (sym (take-map number m xs)) ∙ get_or-take m (map number xs) k 0 below

  pub none_used_past : (j : ℕ) → count ≤ j → j < n → is_used (map number xs) j ≡ false
  none_used_past j past below =
      used_from_zero _
      (⊎_elim
      (λ (inside : j < m). sym (in_front j inside) ∙ zeros j past)
      (λ (after : m ≤ j). get_or_past (map number xs) j 0 (rw length-map (omega arith)))
      (cases_lt j m))

  pub last_used_is : 0 < count → count ≤ m → get_or (map number front) (count - 1) 0 ≢ 0 → IsLastBefore (is_used (map number xs)) n (count - 1)
  last_used_is some within used = record {
    passes = grind (arith, nat_tests, used, in_front (count - 1));
    before = omega arith;
    between = λ j past below. none_used_past j (omega (arith, past)) below;
  }

-- ---- one block more that does not pass

-- none up to there, and the first from there on
pub first_past_none : (n m i : ℕ) (test : ℕ → Bool) → n ≤ m → ((j : ℕ) → n ≤ j → j < m → test j ≡ false) → IsFirstFrom test m i → IsFirstFrom test n i
first_past_none n m i test le none first = record {
  passes = first.passes;
  reached = omega (arith, first.reached);
  between = λ j from before. ⊎_elim (λ (low : j < m). none j from low) (λ (past : m ≤ j). first.between j past before) (cases_lt j m);
}

pub none_more : (w n k b : ℕ) (test : ℕ → Bool) → 0 < w → b ≡ w → ((j : ℕ) → n ≤ j → j < k * w → test j ≡ false)
    → ((j : ℕ) → k * b ≤ j → j < k * b / w * w + w → test j ≡ false) → (j : ℕ) → n ≤ j → j < (k + 1) * w → test j ≡ false
none_more w n k b test pos wide before here j from below =
    let whole : k * b / w * w ≡ k * w = ap (λ x. k * x / w * w) wide ∙ ap (λ x. x * w) (ap (λ x. x / w) (let e : k * w ≡ k * w + 0 = omega arith in e) ∙ div-mul-add k w 0 pos) in
    ⊎_elim
    (λ (low : j < k * w). before j from low)
    (λ (past : k * w ≤ j). here j (rw wide past) (rw whole (omega (arith, below))))
    (cases_lt j (k * w))

-- ---- past that block

-- a block that is 0 has no value that is true
pub unused : (w : ℕ) (ms : List ℕ) (j : ℕ) → 0 < w → is_used ms (j / w) ≡ false → value_at w ms j ≡ false
unused w ms j pos none = ap (value_at w ms) (sym (div-add-mod' j w)) ∙ false_from_unused w ms (j / w) (j % w) (mod-lt j pos) none

module _ (w : ℕ) (ms : List ℕ) (n k : ℕ) (pos : 0 < w) where
  -- the search goes on in the next block that is not 0
  pub first_past_block : (i : ℕ) → ((j : ℕ) → n ≤ j → j < k * w + w → value_at w ms j ≡ false) → n < k * w + w → (q : ℕ)
      → IsFirstFrom (is_used ms) (k + 1) q → IsFirstFrom (value_at w ms) (q * w) i → IsFirstFrom (value_at w ms) n i
  first_past_block i none inside q next first =
      let more = mul-le-mul_right w next.reached in
      record {
        passes = first.passes;
        reached = omega (arith, more, first.reached, inside);
        between = λ j from before.
            let there = λ (at : q ≤ j / w). first.between j (let le = mul-le-mul_right w at in omega (arith, le, div-add-mod' j w)) before in
            let passed = λ (past : k + 1 ≤ j / w) (short : j / w < q). unused w ms j pos (next.between (j / w) past short) in
            let here = λ (low : j / w < k + 1). none j from (let le = mul-le-mul_right w (let e : j / w ≤ k = omega (arith, low) in e) in omega (arith, le, div-add-mod' j w, mod-lt j pos)) in
            grind (arith, there, passed, here);
      }

  pub none_past_block : ((j : ℕ) → n ≤ j → j < k * w + w → value_at w ms j ≡ false) → ((q : ℕ) → k + 1 ≤ q → is_used ms q ≡ false) → (j : ℕ) → n ≤ j → value_at w ms j ≡ false
  none_past_block none zeros j from =
      let passed = λ (past : k + 1 ≤ j / w). unused w ms j pos (zeros (j / w) past) in
      let here = λ (low : j / w < k + 1). none j from (let le = mul-le-mul_right w (let e : j / w ≤ k = omega (arith, low) in e) in omega (arith, le, div-add-mod' j w, mod-lt j pos)) in
      grind (arith, passed, here)

  pub last_before_block : (i : ℕ) → ((j : ℕ) → k * w ≤ j → j < n → value_at w ms j ≡ false) → k * w ≤ n → (q : ℕ)
      → IsLastBefore (is_used ms) k q → IsLastBefore (value_at w ms) (q * w + w) i → IsLastBefore (value_at w ms) n i
  last_before_block i none inside q next last =
      let more = mul-le-mul_right w (let e : q + 1 ≤ k = omega (arith, next.before) in e) in
      record {
        passes = last.passes;
        before = omega (arith, more, last.before, inside);
        between = λ j past below.
            let there = λ (at : j / w ≤ q). last.between j past (let le = mul-le-mul_right w at in omega (arith, le, div-add-mod' j w, mod-lt j pos)) in
            let passed = λ (over : q < j / w) (short : j / w < k). unused w ms j pos (next.between (j / w) over short) in
            let here = λ (high : k ≤ j / w). none j (let le = mul-le-mul_right w high in omega (arith, le, div-add-mod' j w)) below in
            grind (arith, there, passed, here);
      }

  pub none_before_block : ((j : ℕ) → k * w ≤ j → j < n → value_at w ms j ≡ false) → ((q : ℕ) → q < k → is_used ms q ≡ false) → (j : ℕ) → j < n → value_at w ms j ≡ false
  none_before_block none zeros j below =
      let passed = λ (short : j / w < k). unused w ms j pos (zeros (j / w) short) in
      let here = λ (high : k ≤ j / w). none j (let le = mul-le-mul_right w high in omega (arith, le, div-add-mod' j w)) below in
      grind (arith, passed, here)
