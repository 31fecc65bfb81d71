-- Numbers in a row that a set has none of, and what a search for them passes over.
use Rattle.std.proofs.{Common.{◌≡◌, ℕ, zero, suc, ◌+◌, ◌<◌, ◌≤◌, ◌⊎◌, inl, inr, true, false, not, List, Option, Some, None, arith}, lemmas.Bool.{cases_Bool, Decides.nat_tests}}
use Rattle.bit_blocks.specs.Searches.{FindsFrom}
use Rattle.bit_blocks.specs.Bounds.{greatest}
use Rattle.set_algebra.{specs.{Gaps.{FindsGap, HasAmong, IsFirstGap, IsGap, is_gap}, Ranges.span, Sets.{has, is_disjoint}}, proofs.{RangeLemmas.has-span, SubsetLemmas.is_disjoint-members}}

gap_of : (s : List ℕ) (count g : ℕ) → is_gap s count g ≡ true → IsGap s count g
gap_of s count g is =
    let members = is_disjoint-members (span g (g + count)) s in
    record {
      free = λ n from before.
          let out = members.0 (grind (arith, nat_tests, is)) n in
          let in_span = has-span g (g + count) n in
          grind (arith, nat_tests);
      fits = grind (arith, nat_tests, is);
    }

is_gap-of : (s : List ℕ) (count g : ℕ) → IsGap s count g → is_gap s count g ≡ true
is_gap-of s count g gap =
    let apart : is_disjoint (span g (g + count)) s ≡ true =
    (is_disjoint-members (span g (g + count)) s).1 (λ n in_span is_in.
    let inside = has-span g (g + count) n in
    let out = gap.free n in
    grind (arith, nat_tests)) in
    let fits = gap.fits in
    grind (arith, nat_tests)

-- a member among the numbers in a row, or none of them
among_or_free : (s : List ℕ) (count g : ℕ) → HasAmong s count g ⊎ ((n : ℕ) → g ≤ n → n < g + count → has s n ≡ false)
among_or_free s zero g = inr (λ n from before. absurd (omega arith))
among_or_free s (suc count) g =
    elim (among_or_free s count g) [
      | inl found ↦ inl (found.0, found.1, omega (arith, found.2), found.3)
      | inr free ↦
          elim (cases_Bool (has s (g + count))) [
            | inl is ↦ inl (g + count, omega arith, omega arith, is)
            | inr out ↦ inr (λ n from before. let earlier = free n from in grind (arith, nat_tests))
          ]
    ]

pub in_the_way : (s : List ℕ) (count g : ℕ) → g + count ≤ greatest → ¬ IsGap s count g → HasAmong s count g
in_the_way s count g fits none =
    elim (among_or_free s count g) [
      | inl found ↦ found
      | inr free ↦ absurd (none (record { free = free; fits = fits }))
    ]

no_gap : (s : List ℕ) (count g : ℕ) → (g + count ≤ greatest → HasAmong s count g) → is_gap s count g ≡ false
no_gap s count g way =
    elim (cases_Bool (is_gap s count g)) [
      | inl is ↦
          let gap = gap_of s count g is in
          let found = way gap.fits in
          let out = gap.free found.0 found.1 found.2 in
          let member = found.3 in
          absurd (grind arith)
      | inr none ↦ none
    ]

-- what is found, by the test
pub finds_gap : (s : List ℕ) (from count : ℕ) (r : Option ℕ) → FindsGap s from count r → FindsFrom (is_gap s count) from r
finds_gap s from count None none = λ g reached. no_gap s count g (none g reached)
finds_gap s from count (Some g) first = record {
  passes = is_gap-of s count g first.gap;
  reached = first.reached;
  between = λ h from before. no_gap s count h (λ _. first.between h from before);
}

-- no numbers are missing where none are asked for
pub none_asked : (s : List ℕ) (from : ℕ) → from ≤ greatest → FindsGap s from 0 (Some from)
none_asked s from fits = record {
  gap = record { free = λ n reached before. absurd (omega arith); fits = omega arith };
  reached = omega arith;
  between = λ h reached before. absurd (omega arith);
}

-- an element that is too near ends each gap before the next missing number past it
pub none_across : (s : List ℕ) (count gap element next h : ℕ) → 0 < count → gap ≤ h → h < next → element < gap + count
    → has s element ≡ true → ((m : ℕ) → element ≤ m → m < next → not (has s m) ≡ false) → IsGap s count h → ⊥
none_across s count gap element next h some from before near is_in between wide =
    let out = wide.free element in
    let here = wide.free h (omega arith) (omega arith) in
    let past = between h in
    grind arith

-- a gap before which none begins is the first
pub first_gap : (s : List ℕ) (from count gap : ℕ) → IsGap s count gap → from ≤ gap → ((h : ℕ) → from ≤ h → h < gap → IsGap s count h → ⊥) → IsFirstGap s from count gap
first_gap s from count gap is reached none = record {
  gap = is;
  reached = reached;
  between = λ h from_on before. in_the_way s count h (let fits = is.fits in omega arith) (none h from_on before);
}
