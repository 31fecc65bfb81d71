-- A walk that ends in a block: what is left before it, and the block itself.
use Rattle.std.proofs.Common.{◌≡◌, ℕ, ◌+◌, ◌-◌, ◌<◌, ◌≤◌, ◌==◌, false, if◌then◌else◌, List, [], ◌∷◌, ◌++◌, map, drop, take, length, slice_get, Some, All, min, max, refl, sym, ap, subst, ◌∙◌}
use Rattle.std.proofs.Common.{◌⊎◌, inl, inr, arith}
use Rattle.std.proofs.lemmas.{Bool.{cond_both, eqb-true, cases_lt, Decides.nat_tests}, List.{append-nil, length-drop, length-take, Elements.{All-nil, All-cons}}}
use Rattle.bit_blocks.specs.{Digits.is_one, Storage.is_used}
use Rattle.bit_words.specs.{Nonzero.nonzero_from, Pending.{first_true, IsInHand, left_from, next_at}}
use Rattle.bit_words.proofs.{NextAtLemmas.at_first, PendingLemmas.{left-ended, left-here, left-passed, left-split}}

-- ---- the indexes of what is left

module _ {X : Type 0} (number : X → ℕ) where
  from_first : (k : ℕ) (xs : List X) (low : ℕ) → low < k → All (λ entry. low < entry.0) (nonzero_from number k xs)
  from_first k [] low within = All-nil (λ (entry : ℕ × X). low < entry.0)
  from_first k (x ∷ xs) low within =
      let rest = from_first (k + 1) xs low (omega (arith, within)) in
      cond_both (number x == 0) (nonzero_from number (k + 1) xs) ((k, x) ∷ nonzero_from number (k + 1) xs) (All (λ (entry : ℕ × X). low < entry.0))
      (λ _. rest)
      (λ _. All-cons (λ (entry : ℕ × X). low < entry.0) (k, x) _ within rest)

  to_last : (k : ℕ) (xs : List X) (end : ℕ) → k + length xs ≤ end → All (λ entry. entry.0 < end) (nonzero_from number k xs)
  to_last k [] end within = All-nil (λ (entry : ℕ × X). entry.0 < end)
  to_last k (x ∷ xs) end within =
      let rest = to_last (k + 1) xs end (omega (arith, within)) in
      cond_both (number x == 0) (nonzero_from number (k + 1) xs) ((k, x) ∷ nonzero_from number (k + 1) xs) (All (λ (entry : ℕ × X). entry.0 < end))
      (λ _. rest)
      (λ _. All-cons (λ (entry : ℕ × X). entry.0 < end) (k, x) _ (omega (arith, within)) rest)

  left-above : (k p end : ℕ) (xs : List X) → k < p → All (λ entry. k < entry.0) (left_from number p end xs)
  left-above k p end xs past = from_first p (drop p (take end xs)) k past

  left-before : (p end : ℕ) (xs : List X) → p ≤ end → All (λ entry. entry.0 < end) (left_from number p end xs)
  left-before p end xs within = to_last p (drop p (take end xs)) end (omega (arith, length-drop p (take end xs), length-take end xs, within))

  -- ---- what is left before block k, of it and past it

  -- `whole` is the number of block k where that is left, or else 0
  pub record IsSplitAt (p k end to whole : ℕ) (xs : List X) : Type 0 where
    pub at : List (ℕ × X)
    pub past : List (ℕ × X)
    pub split : left_from number p end xs ≡ left_from number p to xs ++ (at ++ past)
    pub before : All (λ entry. entry.0 < k) (left_from number p to xs)
    pub after : All (λ entry. k < entry.0) past
    pub entry : ((at ≡ []) × (whole ≡ 0)) ⊎ ((x : X) × (at ≡ (k, x) ∷ []) × (number x ≡ whole))

  -- it is left, or 0
  split-left : (p k end : ℕ) (x : X) (xs : List X) → p ≤ k → k < end → end ≤ length xs → slice_get xs k ≡ Some x → IsSplitAt p k end k (number x) xs
  split-left p k end x xs from before to at =
      let rest = left_from number (k + 1) end xs in
      let whole : left_from number p end xs ≡ left_from number p k xs ++ (if number x == 0 then rest else (k, x) ∷ rest) = left-split number p k end xs from (omega (arith, before)) to
      ∙ ap (λ ys. left_from number p k xs ++ ys) (left-here number k end x xs before to at) in
      cond_both (number x == 0) rest ((k, x) ∷ rest) (λ ys. left_from number p end xs ≡ left_from number p k xs ++ ys → IsSplitAt p k end k (number x) xs)
      (λ none split. record {
        at = [];
        past = rest;
        split = split;
        before = left-before p k xs from;
        after = left-above k (k + 1) end xs (omega arith);
        entry = inl (refl, eqb-true (number x) 0 none);
      })
      (λ _ split. record {
        at = (k, x) ∷ [];
        past = rest;
        split = split;
        before = left-before p k xs from;
        after = left-above k (k + 1) end xs (omega arith);
        entry = inr (x, refl, refl);
      })
      whole

  -- it is 0
  split-zero : (p k end : ℕ) (xs : List X) → p ≤ k → k < end → end ≤ length xs → is_used (map number xs) k ≡ false → IsSplitAt p k end k 0 xs
  split-zero p k end xs from before to none = record {
    at = [];
    past = left_from number (k + 1) end xs;
    split = left-split number p k end xs from (omega (arith, before)) to
        ∙ ap (λ ys. left_from number p k xs ++ ys)
        (left-passed number k (k + 1) end xs (omega arith) (λ j reached below _. ap (is_used (map number xs)) (let e : j ≡ k = omega (arith, reached, below) in e) ∙ none));
    before = left-before p k xs from;
    after = left-above k (k + 1) end xs (omega arith);
    entry = inl (refl, refl);
  }

  -- it was passed
  split-passed : (p k end to : ℕ) (xs : List X) → k < p → to ≤ p → IsSplitAt p k end to 0 xs
  split-passed p k end to xs past ended =
      let none = left-ended number p to xs ended in
      record {
        at = [];
        past = left_from number p end xs;
        split = ap (λ ys. ys ++ left_from number p end xs) (sym none);
        before = subst (All (λ (entry : ℕ × X). entry.0 < k)) (sym none) (All-nil (λ (entry : ℕ × X). entry.0 < k));
        after = left-above k p end xs past;
        entry = inl (refl, refl);
      }

  -- it is past the end
  split-past : (p k end : ℕ) (xs : List X) → p ≤ k → end ≤ k → IsSplitAt p k end end 0 xs
  split-past p k end xs from past = record {
    at = [];
    past = [];
    split = sym (append-nil (left_from number p end xs));
    before = to_last p (drop p (take end xs)) k (omega (arith, length-drop p (take end xs), length-take end xs, from, past));
    after = All-nil (λ (entry : ℕ × X). k < entry.0);
    entry = inl (refl, refl);
  }

  -- ---- by the pending bits

  module _ (w : ℕ) (is_block : X → Type 0) where
    -- a block whose bit is not pending is 0, or none of those that are left
    unset_is_zero : (index end k : ℕ) (pending : X) (xs : List X) → IsInHand w number is_block index end pending xs → next_at w index (number pending) ≤ k → k < end → k < index + w
        → is_one (number pending) (k - index) ≡ false → is_used (map number xs) k ≡ false
    unset_is_zero index end k pending xs is from before within unset =
        let first = first_true (is_one (number pending)) w in
        let d = k - index in
        let e : index + d ≡ k = omega (arith, from) in
        let one = at_first (is_one (number pending)) w (omega (arith, from, within)) in
        let same = λ (s : first ≡ d). ap (is_one (number pending)) (sym s) ∙ one in
        let covered = λ (after : first < d). is.covers first d after (omega (arith, from, within)) one (omega (arith, e, before)) in
        grind (arith, nat_tests, e, unset, same, covered, from)

    -- it has none of the blocks that are left
    pub split-without : (index end k to : ℕ) (pending : X) (xs : List X) → IsInHand w number is_block index end pending xs → to ≡ min (max k index) end
        → (k < end → index ≤ k → (k < index + w) × (is_one (number pending) (k - index) ≡ false)) → IsSplitAt (next_at w index (number pending)) k end to 0 xs
    split-without index end k to pending xs is to_is out =
        let p = next_at w index (number pending) in
        elim (cases_lt k p) [
          | inl passed ↦ split-passed p k end to xs passed (omega (arith, to_is, passed))
          | inr from ↦ elim (cases_lt k end) [
            | inl before ↦
                let unset = out before (omega (arith, from)) in
                let at : to ≡ k = omega (arith, to_is, from, before) in
                rw at (split-zero p k end xs from before is.ends (unset_is_zero index end k pending xs is from before unset.0 unset.1))
            | inr past ↦ let at : to ≡ end = omega (arith, to_is, past, is.within) in rw at (split-past p k end xs from past)
          ]
        ]

    pub split-with : (index end k to : ℕ) (x pending : X) (xs : List X) → IsInHand w number is_block index end pending xs → to ≡ min (max k index) end
        → (next_at w index (number pending) ≤ k) × (k < end) → slice_get xs k ≡ Some x → IsSplitAt (next_at w index (number pending)) k end to (number x) xs
    split-with index end k to x pending xs is to_is left at =
        let to_k : to ≡ k = omega (arith, to_is, left) in
        rw to_k (split-left (next_at w index (number pending)) k end x xs left.0 left.1 is.ends at)
