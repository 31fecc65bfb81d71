-- How many ones blocks have, by a summary of them.
use Rattle.std.proofs.Common.{◌≡◌, ℕ, zero, suc, ◌+◌, ◌*◌, ◌<◌, Bool, List, [], ◌∷◌, map, take, drop, get_or, get_or-take}
use Rattle.std.proofs.Common.{get_or-drop, length, length-take, count_ones, refl, sym, ap, ◌∙◌, ⊎_elim, arith}
use Rattle.std.proofs.lemmas.Bool.{cases_lt}
use Rattle.std.{proofs.{lemmas.{Bool.Decides.nat_tests, List.{take-map, drop-map, get_or_past, length-map, Sums.{sum_by-append, sum_by-cons}}}, Math.Seq.take-add}, specs.List.{sum_by, count_by}}
use Rattle.bit_blocks.{specs.{Storage.{value_at, ones_in, is_used}, Bits.blocks_of}, proofs.{LowestLemmas.ones_zero, OnesLemmas.blocks_ones, Masks.is_one-zero, StorageLemmas.value_at-index}}

module _ {X : Type 0} (number : X → ℕ) where
  -- those of some blocks, and of the next ones
  pub ones_in-more : (i n : ℕ) (xs : List X) → ones_in number (take (i + n) xs) ≡ ones_in number (take i xs) + ones_in number (take n (drop i xs))
  ones_in-more i n xs =
      ap (ones_in number) (take-add i n xs) ∙ sum_by-append (λ x. count_ones (number x)) (take i xs) (take n (drop i xs))

  pub ones_in-none : (xs : List X) → ((j : ℕ) → get_or (map number xs) j 0 ≡ 0) → ones_in number xs ≡ 0
  ones_in-none [] zeros = refl
  ones_in-none (x ∷ xs) zeros = grind (arith, ones_in-none xs (λ j. zeros (suc j)), zeros 0, ones_zero, sum_by-cons (λ y. count_ones (number y)) x xs)

  -- some slices of blocks more
  pub chunks_counted : (w i n ones : ℕ) (xs back front : List X) → ones ≡ ones_in number (take (i * w) xs)
      → front ≡ take (n * w) back → back ≡ drop (i * w) xs → ones + ones_in number front ≡ ones_in number (take ((i + n) * w) xs)
  chunks_counted w i n ones xs back front counted is from =
      let e : i * w + n * w ≡ (i + n) * w = omega arith in
      grind (arith, ones_in-more (i * w) (n * w) xs)

  -- a slice of blocks of which the summary has no bit
  pub chunk_none : (w i : ℕ) (xs summary : List X)
      → ((k : ℕ) → k < length xs → value_at w (map number summary) k ≡ is_used (map number xs) k)
      → get_or (map number summary) i 0 ≡ 0 → ones_in number (take w (drop (i * w) xs)) ≡ 0
  chunk_none w i xs summary digit none = ones_in-none (take w (drop (i * w) xs)) (λ j.
      rw (sym (take-map number w (drop (i * w) xs)), sym (drop-map number (i * w) xs))
      (⊎_elim
      (λ within. grind (arith, nat_tests, get_or-take w (drop (i * w) (map number xs)) j 0 within, get_or-drop (i * w) (map number xs) j 0, digit (i * w + j), value_at-index w (map number summary) i j within, is_one-zero j, get_or_past (map number xs) (i * w + j) 0, length-map xs number))
      (λ past. get_or_past _ j 0 (omega (arith, length-take w (drop (i * w) (map number xs)))))
      (cases_lt j w)))

  -- slices of blocks of which the summary has no bit
  pub chunks_none : (w i n : ℕ) (xs summary : List X)
      → ((k : ℕ) → k < length xs → value_at w (map number summary) k ≡ is_used (map number xs) k)
      → ((j : ℕ) → j < n → get_or (map number summary) (i + j) 0 ≡ 0)
      → ones_in number (take (i * w) xs) ≡ ones_in number (take ((i + n) * w) xs)
  chunks_none w i zero xs summary digit none = ap (λ m. ones_in number (take (m * w) xs)) (let e : i ≡ i + 0 = omega arith in e)
  chunks_none w i (suc n) xs summary digit none =
      let back = drop ((i + n) * w) xs in
      let more = chunks_counted w (i + n) 1 _ xs back (take (1 * w) back) (chunks_none w i n xs summary digit (λ j within. none j (omega (arith, within)))) refl refl in
      let one : 1 * w ≡ w = omega arith in
      let last : (i + n + 1) * w ≡ (i + suc n) * w = omega arith in
      grind (arith, more, chunk_none w (i + n) xs summary digit (none n (omega arith)))

  -- those of the numbers of the blocks
  pub ones_in-numbers : (xs : List X) → ones_in number xs ≡ sum_by count_ones (map number xs)
  ones_in-numbers [] = refl
  ones_in-numbers (x ∷ xs) =
      sum_by-cons (λ y. count_ones (number y)) x xs ∙ ap (λ n. count_ones (number x) + n) (ones_in-numbers xs) ∙ sym (sum_by-cons count_ones (number x) (map number xs))

  -- in the blocks of a list, its true values
  pub ones_in-values : (w : ℕ) (xs : List X) (values : List Bool) → 0 < w → map number xs ≡ blocks_of w values → ones_in number xs ≡ count_by (λ value. value) values
  ones_in-values w xs values pos is = ones_in-numbers xs ∙ ap (sum_by count_ones) is ∙ blocks_ones w values pos
