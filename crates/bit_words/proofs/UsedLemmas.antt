-- Which of the blocks of a list a block of its summary says are not 0, as it is made.
use Rattle.std.proofs.Common.{◌≡◌, ◌≢◌, ℕ, ◌+◌, ◌-◌, ◌<◌, ◌≤◌, Bool, false, ◌&&◌, ◌||◌, ◌==◌, nat_lt, nat_le, List, map, min, length, get_or, sym, ap, ap₂, ◌∙◌, arith, ⊎_elim}
use Rattle.std.proofs.{Math.Bool.or-false, lemmas.{Bool.{cases_eq, cases_lt, Decides.nat_tests}, List.{get_or_past, length-map}}}
use Rattle.bit_blocks.{specs.{Digits.{IsEither, IsShiftedLeft, is_one}, Storage.is_used}, proofs.{Masks.is_one-either, TestLemmas.{above_and, before_and, below_and, from_and}}}
use Rattle.bit_words.specs.Summary.{SaysUsed}

module _ {X : Type 0} (w : ℕ) (f : X → ℕ) (P : X → Type 0) where
  -- of one block more
  pub says_more : (start k : ℕ) (xs : List X) (m n : X) → SaysUsed w f P xs start k m → P n → is_one (f n) k ≡ is_used (map f xs) (start + k)
      → ((q : ℕ) → q < w → q ≢ k → is_one (f n) q ≡ is_one (f m) q) → SaysUsed w f P xs start (k + 1) n
  says_more start k xs m n before of_block here others =
      let used : ℕ → Bool = λ q. is_used (map f xs) (start + q) in
      record {
        of_block = of_block;
        digit = λ q within.
            ⊎_elim
            (λ e. ap (is_one (f n)) e ∙ here ∙ sym (ap used e) ∙ sym (below_and (k + 1) q (used q) (omega arith)))
            (λ ne.
            let same : nat_lt q k ≡ nat_lt q (k + 1) = grind (arith, nat_tests) in
            others q within ne ∙ before.digit q within ∙ ap (λ t. t && used q) same)
            (cases_eq q k);
      }

  -- of a group more, whose digits are moved to their place
  pub says_group : (start from k c d : ℕ) (xs : List X) (m p s r : X) → from ≡ start + k → d ≡ k + c → SaysUsed w f P xs start k m → SaysUsed w f P xs from c p
      → IsShiftedLeft w (f p) k (f s) → IsEither w (f m) (f s) (f r) → P r → SaysUsed w f P xs start d r
  says_group start from k c d xs m p s r e last before group moved either of_block =
      let used : ℕ → Bool = is_used (map f xs) in record {
        of_block = of_block;
        digit = λ j within.
            is_one-either w (f m) (f s) (f r) j either within
            ∙ ⊎_elim
            (λ low. rw (before.digit j within, below_and k j (used (start + j)) low, below_and d j (used (start + j)) (omega arith), ap (λ x. x == 1) (moved.zeros j low)) (or-false _))
            (λ high.
            let back : j - k + k ≡ j = omega arith in
            let same : nat_lt (j - k) c ≡ nat_lt j d = grind (arith, nat_tests) in
            let index : from + (j - k) ≡ start + j = omega arith in
            let digit : is_one (f s) j ≡ is_one (f p) (j - k) = rw back at (ap (λ x. x == 1) (moved.moved (j - k) (omega arith))) in
            ap₂ (λ x y. x || y) (before.digit j within ∙ above_and k j (used (start + j)) high) (digit ∙ group.digit (j - k) (omega arith) ∙ ap₂ (λ t x. t && used x) same index))
            (cases_lt j k);
      }

  -- of as many as there are, it says it of all
  pub says_all : (start count : ℕ) (xs : List X) (m : X) → count ≡ min (length xs - start) w → SaysUsed w f P xs start count m → (j : ℕ) → j < w → is_one (f m) j ≡ is_used (map f xs) (start + j)
  says_all start count xs m most says j index = grind (arith, nat_tests, says.digit j index, get_or_past (map f xs) (start + j) 0, length-map)

  -- where a block past those is written
  pub says_kept : (start k : ℕ) (xs ys : List X) (m : X) → ((q : ℕ) → q < start + k → get_or (map f ys) q 0 ≡ get_or (map f xs) q 0) → SaysUsed w f P xs start k m → SaysUsed w f P ys start k m
  says_kept start k xs ys m kept says = record {
    of_block = says.of_block;
    digit = λ j index. grind (arith, nat_tests, says.digit j index, kept (start + j));
  }

-- ---- a block of the summary, in which c bits from i on are put, and the others stay

module _ {X : Type 0} (w i c start : ℕ) (f : X → ℕ) (P : X → Type 0) (xs : List X) (b low high kept p s r : X) (lows : (j : ℕ) → j < w → is_one (f low) j ≡ (nat_lt j i && is_one (f b) j))
    (highs : (j : ℕ) → j < w → is_one (f high) j ≡ (nat_le (i + c) j && is_one (f b) j)) (ends : IsEither w (f low) (f high) (f kept)) (says : SaysUsed w f P xs start c p)
    (moved : IsShiftedLeft w (f p) i (f s)) (all : IsEither w (f kept) (f s) (f r)) where
  -- what each of its digits comes from
  put_digit : (j : ℕ) (x y z : Bool) → j < w → (nat_lt j i && is_one (f b) j) ≡ x → (nat_le (i + c) j && is_one (f b) j) ≡ y → is_one (f s) j ≡ z → is_one (f r) j ≡ ((x || y) || z)
  put_digit j x y z within one two three =
      is_one-either w (f kept) (f s) (f r) j all within
      ∙ ap₂ (λ k t. k || t) (is_one-either w (f low) (f high) (f kept) j ends within ∙ ap₂ (λ l h. l || h) (lows j within ∙ one) (highs j within ∙ two)) three

  pub put_made : i + c ≤ w → (j : ℕ) → j < c → is_one (f r) (i + j) ≡ is_used (map f xs) (start + j)
  put_made within j below =
      let used = is_used (map f xs) (start + j) in
      let order : j + i ≡ i + j = omega arith in
      let digit : is_one (f s) (i + j) ≡ is_one (f p) j = rw order at (ap (λ x. x == 1) (moved.moved j (omega arith))) in
      put_digit (i + j) false false used (omega arith) (above_and i (i + j) _ (omega arith)) (before_and (i + c) (i + j) _ (omega arith))
      (digit ∙ says.digit j (omega arith) ∙ below_and c j used below)

  pub put_below : (j : ℕ) → j < i → j < w → is_one (f r) j ≡ is_one (f b) j
  put_below j under within =
      put_digit j (is_one (f b) j) false false within (below_and i j _ under) (before_and (i + c) j _ (omega arith)) (ap (λ x. x == 1) (moved.zeros j under)) ∙ or-false _ ∙ or-false _

  pub put_above : (j : ℕ) → i + c ≤ j → j < w → is_one (f r) j ≡ is_one (f b) j
  put_above j over within =
      let back : j - i + i ≡ j = omega arith in
      let digit : is_one (f s) j ≡ is_one (f p) (j - i) = rw back at (ap (λ x. x == 1) (moved.moved (j - i) (omega arith))) in
      put_digit j false (is_one (f b) j) false within (above_and i j _ (omega arith)) (from_and (i + c) j _ over)
      (digit ∙ says.digit (j - i) (omega arith) ∙ above_and c (j - i) _ (omega arith)) ∙ or-false _
