-- Blocks that are 0.
use Rattle.std.proofs.Common.{◌≡◌, ℕ, suc, ◌+◌, ◌*◌, ◌/◌, ◌%◌, ◌<◌, List, [], ◌∷◌, map, drop, take, get_or, get_or-take, get_or-drop, All, sym, ap, ◌∙◌, arith, mod-lt, div-add-mod'}
use Rattle.std.proofs.lemmas.List.{drop-map, take-map, Elements.{All-nil, All-cons}}
use Rattle.bit_blocks.{specs.Storage.value_at, proofs.StorageLemmas.{value_at-is, value_at-index}}

-- what lies past the first blocks
pub dropped : {X : Type 0} (number : X → ℕ) (n j : ℕ) (xs : List X) → get_or (map number (drop n xs)) j 0 ≡ get_or (map number xs) (n + j) 0
dropped number n j xs = ap (λ ms. get_or ms j 0) (sym (drop-map number n xs)) ∙ get_or-drop n (map number xs) j 0

-- past the first blocks of a summary
pub value_at-drop : (w q : ℕ) (ms : List ℕ) (k : ℕ) → 0 < w → value_at w (drop q ms) k ≡ value_at w ms (q * w + k)
value_at-drop w q ms k pos = grind (arith, value_at-is w (drop q ms) k, get_or-drop q ms (k / w) 0, value_at-index w ms (q + k / w) (k % w), mod-lt k pos, div-add-mod' k w)

module _ {X : Type 0} (w : ℕ) (number : X → ℕ) (is_block : X → Type 0) where
  pub all_zero : (xs : List X) → ((k : ℕ) → get_or (map number xs) k 0 ≡ 0) → All (λ x. number x ≡ 0) xs
  all_zero [] zeros = All-nil (λ x. number x ≡ 0)
  all_zero (x ∷ xs) zeros = All-cons (λ y. number y ≡ 0) x xs (zeros 0) (all_zero xs (λ k. zeros (suc k)))

  pub front_read : (xs : List X) (end k : ℕ) → k < end → get_or (map number (take end xs)) k 0 ≡ get_or (map number xs) k 0
  front_read xs end k within = ap (λ ms. get_or ms k 0) (sym (take-map number end xs)) ∙ get_or-take end (map number xs) k 0 within
