-- Blocks that are 0, by a summary.
use Rattle.std.proofs.Common.{◌≡◌, ℕ, ◌+◌, ◌-◌, ◌*◌, ◌/◌, ◌%◌, ◌^◌, ◌<◌, ◌≤◌, ◌↔◌, List, min, map, length, get_or, All, sym, ap, ◌∙◌, arith}
use Rattle.std.proofs.lemmas.{Nat.le-div, List.{get_or_past, length-map}}
use Rattle.bit_blocks.{specs.Digits.is_one, proofs.{CompareLemmas.zero_from_digits, Masks.is_one-zero, StorageLemmas.{value_at-is, value_at-index}}}
use Rattle.bit_words.specs.Summary.{IsSummary}
use Rattle.bit_blocks.proofs.{UseLemmas.{used_from_zero, zero_from_unused}, VectorLemmas.{numbers_below, all_zero_map}}
use Rattle.bit_blocks.proofs.ZeroLemmas.{all_zero}

module _ {X : Type 0} (w : ℕ) (number : X → ℕ) (is_block : X → Type 0) where
  -- a summary's block that is 0 has no block that is not
  pub zero_from_chunk : (xs summary : List X) → IsSummary w number is_block xs summary → (k : ℕ) → get_or (map number summary) (k / w) 0 ≡ 0 → get_or (map number xs) k 0 ≡ 0
  zero_from_chunk xs summary is k none =
      zero_from_unused (get_or (map number xs) k 0) (sym (is.digit k) ∙ value_at-is w (map number summary) k ∙ ap (λ m. is_one m (k % w)) none ∙ is_one-zero (k % w))

  pub zero_by_summary : ((x : X) → is_block x → number x < 2 ^ w) → (xs summary : List X) → IsSummary w number is_block xs summary → All (λ x. number x ≡ 0) summary ↔ All (λ x. number x ≡ 0) xs
  zero_by_summary below xs summary is = (
    λ none. all_zero w number is_block xs (λ k. zero_from_chunk xs summary is k (all_zero_map number summary none (k / w))),
    λ none. all_zero w number is_block summary (λ q. zero_from_digits w (get_or (map number summary) q 0) (numbers_below w number is_block summary below is.packed.each q) (λ j within.
        sym (value_at-index w (map number summary) q j within) ∙ is.digit (q * w + j) ∙ used_from_zero (get_or (map number xs) (q * w + j) 0) (all_zero_map number xs none (q * w + j)))),
  )

  -- past the chunks of which the summary has a bit
  pub zero_past_chunks : (xs summary : List X) (chunks end k : ℕ) → 0 < w → IsSummary w number is_block xs summary → ((q : ℕ) → chunks ≤ q → get_or (map number summary) q 0 ≡ 0)
      → end ≡ min (min (chunks * w) (2 ^ 64 - 1)) (length xs) → end ≤ k → get_or (map number xs) k 0 ≡ 0
  zero_past_chunks xs summary chunks end k pos is none at past =
      grind (arith, is.packed.fits, le-div chunks k w pos, λ (chunk : chunks ≤ k / w). zero_from_chunk xs summary is k (none (k / w) chunk), get_or_past, length-map)
