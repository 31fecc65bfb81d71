-- The ranks of the members of a set: laws of `src/laws/ranges.rt`.
use Rattle.std.proofs.Common.{◌≡◌, ℕ, zero, suc, ◌+◌, ◌≤◌, ◌↔◌, true, false, eqb, nat_lt, List, [], ◌∷◌, IsTrue, length, Some, slice_get, refl, sym, ap, ◌∙◌, subst, inl, inr, arith}
use Rattle.std.proofs.lemmas.Bool.{cases_lt, Decides.nat_tests}
use Rattle.set_algebra.specs.{Ranges.those_in_range, Sets.{AscendsFrom, IsAscending, has, those_below}}
use Rattle.bit_set.proofs.MissingLaws.{in_range_from_0}
use Rattle.set_algebra.proofs.SetLemmas.{has-below, has-first}

-- ---- rank and select

none_less : (low x : ℕ) (s : List ℕ) → x ≤ low → AscendsFrom low s → those_below s x ≡ []
none_less low x [] past up = refl
none_less low x (y ∷ s) past up =
    let from = up.0 in
    let test : nat_lt y x ≡ false = grind (arith, nat_tests) in
    rw test (none_less (y + 1) x s (omega (arith, from, past)) up.1)

-- the member at k has k members below it
pub rank_of : (low : ℕ) (s : List ℕ) (k x : ℕ) → AscendsFrom low s → slice_get s k ≡ Some x → (low ≤ x) × IsTrue (has s x) × (length (those_below s x) ≡ k)
rank_of low [] k x up at = absurd (let e = at in cc)
rank_of low (y ∷ s) zero x up at =
    let same : y ≡ x = (let e = at in cc) in
    let from = up.0 in
    let test : nat_lt y x ≡ false = grind (arith, nat_tests) in
    (omega (arith, from, same), subst (λ n. IsTrue (has (y ∷ s) n)) same (has-first y s), rw test (ap length (none_less (y + 1) x s (omega (arith, same)) up.1)))
rank_of low (y ∷ s) (suc k) x up at =
    let rest = rank_of (y + 1) s k x up.1 at in
    let from = up.0 in
    let test : nat_lt y x ≡ true = grind (arith, nat_tests, rest.0) in
    (omega (arith, from, rest.0), grind (arith, rest.1), rw test (ap suc rest.2))

member_at : (low : ℕ) (s : List ℕ) (x : ℕ) → AscendsFrom low s → IsTrue (has s x) → slice_get s (length (those_below s x)) ≡ Some x
member_at low [] x up is = absurd (let e = is in cc)
member_at low (y ∷ s) x up is =
    elim (cases_lt y x) [
      | inl below ↦
          let test : nat_lt y x ≡ true = grind (arith, nat_tests) in
          let other : eqb y x ≡ false = grind (arith, nat_tests) in
          rw test (member_at (y + 1) s x up.1 (grind (arith, is, other)))
      | inr past ↦
          let outside = has-below (y + 1) s x up.1 in
          let same : y ≡ x = grind (arith, nat_tests, is, outside, past) in
          let test : nat_lt y x ≡ false = grind (arith, nat_tests) in
          rw (test, none_less (y + 1) x s (omega (arith, past)) up.1) (ap Some same)
    ]

pub selected_by_rank : (s : List ℕ) (k x : ℕ) → IsAscending s → (slice_get s k ≡ Some x) ↔ (IsTrue (has s x) × (length (those_in_range s 0 x) ≡ k))
selected_by_rank s k x up =
    let below = ap length (in_range_from_0 s x) in (
      λ at. let ranked = rank_of 0 s k x up at in (ranked.1, below ∙ ranked.2),
      λ is. ap (slice_get s) (sym is.1 ∙ below) ∙ member_at 0 s x up is.0,
    )
