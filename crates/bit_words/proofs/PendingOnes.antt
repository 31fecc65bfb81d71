-- The ones of the blocks that a walk has left.
use Rattle.std.proofs.Common.{◌≡◌, ℕ, ◌+◌, ◌-◌, ◌*◌, ◌<◌, ◌≤◌, not, ◌==◌, List, [], ◌∷◌, map, drop, take, length, length-take, get_or, get_or-take, count_ones, refl, sym, ap, ◌∙◌, arith}
use Rattle.std.proofs.lemmas.List.{drop-take, length-drop, take-map, Sums.sum_by-cons}
use Rattle.std.proofs.{lemmas.{List.Sums.sum_by-take-drop, Bool.Decides.nat_tests}, Math.Seq.drop-drop}
use Rattle.bit_blocks.specs.{Digits.is_one, Lowest.IsLowest, Storage.{ones_in, value_at, is_used}}
use Rattle.bit_words.specs.{Nonzero.{nonzero_from, ones_left}, Pending.{IsStoredFrom, next_at}, Summary.short_count}
use Rattle.bit_blocks.proofs.{LowestLemmas.ones_zero, ZeroLemmas.dropped}
use Rattle.bit_words.proofs.NextAtLemmas.{first_most, next_at-lowest, next_at-zero}

module _ {X : Type 0} (w : ℕ) (number : X → ℕ) (is_block : X → Type 0) where
  -- the blocks from block p on that are not 0
  abbrev pub nonzero_past : ℕ → List X → List (ℕ × X)
  nonzero_past p xs = nonzero_from number p (drop p xs)

  pub ones_nonzero : (k : ℕ) (xs : List X) → ones_left number (nonzero_from number k xs) ≡ ones_in number xs
  ones_nonzero k [] = refl
  ones_nonzero k (x ∷ xs) =
      grind (arith, nat_tests, ones_nonzero (k + 1) xs, sum_by-cons (λ y. count_ones (number y)) x xs, sum_by-cons (λ (entry : ℕ × X). count_ones (number entry.1)) (k, x) (nonzero_from number (k + 1) xs), ones_zero)

  -- these are all where there is no pending bit
  pub left-ones_past : (index m : ℕ) (xs : List X) → m ≡ 0 → ones_left number (nonzero_past (next_at w index m) xs) ≡ ones_in number (drop w (drop index xs))
  left-ones_past index m xs none =
      ones_nonzero (next_at w index m) (drop (next_at w index m) xs)
      ∙ ap (λ p. ones_in number (drop p xs)) (next_at-zero w index m none)
      ∙ ap (ones_in number) (sym (drop-drop w index xs))

  -- and they are never more
  pub left-ones_rest : (index m : ℕ) (xs : List X) → ones_in number (drop w (drop index xs)) ≤ ones_left number (nonzero_past (next_at w index m) xs)
  left-ones_rest index m xs =
      let p = next_at w index m in
      let e : p + (index + w - p) ≡ index + w = omega (arith, first_most (is_one m) w) in
      grind (arith, ones_nonzero p (drop p xs), sum_by-take-drop (λ x. count_ones (number x)) (drop p xs) (index + w - p), drop-drop (index + w - p) p xs, drop-drop w index xs)

  -- those of the blocks of the chunk in hand, and of the ones past it
  pub left-ones_split : (index i m : ℕ) (xs : List X) (all : List (ℕ × X)) → IsLowest m i → i < w → nonzero_past (next_at w index m) xs ≡ all
      → ones_in number (drop w (drop index xs)) + ones_in number (drop i (take w (drop index xs))) ≡ ones_left number all
  left-ones_split index i m xs all low within is =
      let ys = drop index xs in
      let zs = drop i ys in
      let whole = sum_by-take-drop (λ x. count_ones (number x)) zs (w - i) in
      let e : i + (w - i) ≡ w = omega (arith, within) in
      let chunk : ones_in number (drop i (take w ys)) ≡ ones_in number (take (w - i) zs) =
      ap (λ n. ones_in number (drop i (take n ys))) (sym e) ∙ ap (ones_in number) (drop-take i (w - i) ys) in
      let rest : ones_in number (drop w ys) ≡ ones_in number (drop (w - i) zs) =
      ap (λ n. ones_in number (drop n ys)) (sym e) ∙ ap (ones_in number) (sym (drop-drop (w - i) i ys)) in
      let left : ones_left number all ≡ ones_in number zs =
      ap (ones_left number) (sym is)
      ∙ ones_nonzero (next_at w index m) (drop (next_at w index m) xs)
      ∙ ap (λ p. ones_in number (drop p xs)) (next_at-lowest w index m i low within)
      ∙ ap (ones_in number) (sym (drop-drop i index xs)) in
      omega (arith, whole, chunk, rest, left)

  -- what the blocks of the summary that are left say
  pub tells_rest : (index end : ℕ) (xs summary : List X) → end ≤ length xs → IsStoredFrom w number is_block (index + w) end xs summary
      → short_count w < length (drop w (drop index (take end xs))) → (k : ℕ) → k < length (drop w (drop index (take end xs)))
      → value_at w (map number summary) k ≡ is_used (map number (drop w (drop index (take end xs)))) k
  tells_rest index end xs summary ends is long k within =
      let ys = take end xs in
      let most = length-drop w (drop index ys) in
      let all = length-drop index ys in
      let whole = length-take end xs in
      let inside : index + w + k < end = omega (arith, within, most, all, whole, ends) in
      is.digit (omega (arith, long, most, all, whole)) k inside
      ∙ ap (λ m. not (m == 0))
      (sym (get_or-take end (map number xs) (index + w + k) 0 inside) ∙ ap (λ ms. get_or ms (index + w + k) 0) (take-map number end xs) ∙ sym (dropped number (index + w) k ys))
      ∙ ap (λ zs. is_used (map number zs) k) (sym (drop-drop w index ys))

  -- and for how many blocks these are
  pub enough_rest : (index end : ℕ) (xs summary : List X) → end ≤ length xs → IsStoredFrom w number is_block (index + w) end xs summary
      → short_count w < length (drop w (drop index (take end xs))) → length (drop w (drop index (take end xs))) ≤ length summary * w
  enough_rest index end xs summary ends is long =
      let most = length-drop w (drop index (take end xs)) in
      let all = length-drop index (take end xs) in
      let whole = length-take end xs in
      let enough = is.enough (omega (arith, long, most, all, whole)) in
      omega (arith, most, all, whole, enough)
