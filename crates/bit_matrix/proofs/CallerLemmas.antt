-- What a caller cites of matrices.
use Rattle.std.proofs.{Common.{◌≡◌, ℕ, ◌≤◌, List, [], false, ap, length, refl, subst}, lemmas.{Iterator.{YieldsList, Consumers.YieldsList-from_shown}, List.get_or_past}}
use Rattle.bit_set.specs.Sets.{has}
use Rattle.bit_matrix.specs.{Matrices.{Matrix, has_at}, Walks.AdvancesInRow}
use Rattle.bit_set.proofs.CallerLemmas.{calls}

-- what a walk over a row gives
pub gives_row : (left : List ℕ) {xs : List ℕ} → left ≡ xs → YieldsList AdvancesInRow (λ x. x) left xs
gives_row left same =
    subst (YieldsList AdvancesInRow (λ x. x) left) same
    (YieldsList-from_shown AdvancesInRow (λ x. x) (λ l. l) (λ a b h. ap length h.item.0) (λ a x b h. h.item) left)

-- past the last row there is nothing
pub past_rows : (m : Matrix) (r c : ℕ) → (has_at m r c ≡ has_at m r c) × (length m.rows ≤ r → has_at m r c ≡ false)
past_rows m r c = (refl, λ past. ap (λ (row : List ℕ). has row c) (get_or_past m.rows r [] past))

-- all that callers of matrices use, for `grind`: a crate names it at its root in place of `calls`
pub ruleset matrix_calls = (calls, past_rows)
