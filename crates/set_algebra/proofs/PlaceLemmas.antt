-- Members by their places in an ascending list, by which std speaks of what a chain meets; tests of lists by places.
use Rattle.std.proofs.Common.{◌≡◌, ℕ, zero, suc, ◌+◌, ◌<◌, ◌≤◌, ◌↔◌, Bool, All, Any, IsTrue, List, [], ◌∷◌, get_or, inl, inr, length, refl, arith}
use Rattle.std.proofs.lemmas.Bool.{cases_Bool, cases_eq, Decides.nat_tests}
use Rattle.std.specs.List.{list_all, list_any}
use Rattle.set_algebra.specs.Sets.{AscendsFrom, IsAscending, has}

-- ---- members

-- what is at a place is a member
pub at_place : (s : List ℕ) (k d : ℕ) → k < length s → (get_or s k d ≡ get_or s k d) × IsTrue (has s (get_or s k d))
at_place [] k d within = absurd (omega arith)
at_place (x ∷ xs) zero d within = (refl, grind (arith, nat_tests))
at_place (x ∷ xs) (suc k) d within =
    let rest = at_place xs k d (omega arith) in (refl, grind (arith, nat_tests, rest.1))

-- a member has a place
pub has_place : (s : List ℕ) (x : ℕ) → IsTrue (has s x) → (k : ℕ) × (k < length s) × (get_or s k x ≡ x)
has_place [] x is = absurd (let e = is in cc)
has_place (y ∷ ys) x is =
    elim (cases_eq y x) [
      | inl same ↦ (0, omega arith, same)
      | inr other ↦
          let rest = has_place ys x (grind (arith, nat_tests, is, other)) in
          (suc rest.0, omega (arith, rest.1), rest.2)
    ]

-- the places go as the members do
later_from : (low : ℕ) (s : List ℕ) (k d : ℕ) → AscendsFrom low s → k < length s → low ≤ get_or s k d
later_from low [] k d up within = absurd (omega arith)
later_from low (x ∷ xs) zero d up within = up.0
later_from low (x ∷ xs) (suc k) d up within =
    let rest = later_from (x + 1) xs k d up.1 (omega arith) in
    let from = up.0 in
    omega (arith, rest, from)

in_order_from : (low : ℕ) (s : List ℕ) (j k d e : ℕ) → AscendsFrom low s → j < k → k < length s
    → get_or s j d < get_or s k e
in_order_from low [] j k d e up less within = absurd (omega arith)
in_order_from low (x ∷ xs) zero zero d e up less within = absurd (omega arith)
in_order_from low (x ∷ xs) zero (suc k) d e up less within =
    let rest = later_from (x + 1) xs k e up.1 (omega arith) in omega (arith, rest)
in_order_from low (x ∷ xs) (suc j) zero d e up less within = absurd (omega arith)
in_order_from low (x ∷ xs) (suc j) (suc k) d e up less within =
    in_order_from (x + 1) xs j k d e up.1 (omega arith) (omega arith)

pub in_order : (s : List ℕ) (j k d e : ℕ) → IsAscending s → j < k → k < length s → get_or s j d < get_or s k e
in_order s j k d e up less within = in_order_from 0 s j k d e up less within

-- ---- tests of the elements of a list of any kind

module _ {X : Type 0} (p : X → Bool) where
  each_at_places : (xs : List X) → IsTrue (list_all p xs) → All (λ x. IsTrue (p x)) xs
  each_at_places [] is k d within = absurd (omega arith)
  each_at_places (y ∷ ys) is zero d within = grind arith
  each_at_places (y ∷ ys) is (suc k) d within = each_at_places ys (grind (arith, is)) k d (omega arith)

  all_from_places : (xs : List X) → All (λ x. IsTrue (p x)) xs → IsTrue (list_all p xs)
  all_from_places [] each = refl
  all_from_places (y ∷ ys) each =
      let rest = all_from_places ys (λ k d within. each (suc k) d (omega arith)) in
      let first = each 0 y (omega arith) in
      grind (arith, rest, first)

  pub all_by_places : (xs : List X) → IsTrue (list_all p xs) ↔ All (λ x. IsTrue (p x)) xs
  all_by_places xs = (each_at_places xs, all_from_places xs)

  one_at_place : (xs : List X) → IsTrue (list_any p xs) → Any (λ x. IsTrue (p x)) xs
  one_at_place [] is = absurd (let e = is in cc)
  one_at_place (y ∷ ys) is =
      elim (cases_Bool (p y)) [
        | inl passes ↦ (0, y, omega arith, refl, passes)
        | inr fails ↦
            let rest = one_at_place ys (grind (arith, is, fails)) in
            (suc rest.0, rest.1, omega (arith, rest.2), rest.3, rest.4)
      ]

  any_from_place : (xs : List X) → Any (λ x. IsTrue (p x)) xs → IsTrue (list_any p xs)
  any_from_place [] (k, x, within, at, passes) = absurd (omega arith)
  any_from_place (y ∷ ys) (zero, x, within, at, passes) = grind arith
  any_from_place (y ∷ ys) (suc k, x, within, at, passes) =
      let rest = any_from_place ys (k, x, omega arith, at, passes) in
      grind (arith, rest)

  pub any_by_places : (xs : List X) → IsTrue (list_any p xs) ↔ Any (λ x. IsTrue (p x)) xs
  any_by_places xs = (one_at_place xs, any_from_place xs)
