-- What is in a range and what is not, and what searches find: the laws of `src/laws/ranges.rt`.
use Rattle.std.proofs.Common.{◌≡◌, ℕ, ◌+◌, ◌↔◌, true, ◌||◌, eqb, ltb, nat_le, List, [], ◌∷◌, ◌++◌, IsTrue, length, filter, Option, Some, None, refl, sym, ap, ◌∙◌, arith, subst}
use Rattle.std.{proofs.lemmas.Bool.{false≢true, Decides.nat_tests}, specs.Prelude.MatchOption}
use Rattle.bit_blocks.specs.{Ranges.in_range, Searches.{FindsBefore, FindsFrom}}
use Rattle.set_algebra.specs.{Choices.{IsFirstOf, IsGreatest, IsLastOf, IsLeast}, Members.HasNone, Ranges.{span, those_in_range}}
use Rattle.set_algebra.specs.Sets.{IsAscending, difference, has, is_disjoint, those_below, those_from, union, without}
use Rattle.set_algebra.proofs.{AlgebraLemmas.has-union, EndLemmas.{first_of_those, greatest_last, has-pushed, last_of_those, least_first}, MemberLemmas.{init_below, none_from_members, takes_least}}
use Rattle.set_algebra.proofs.{RangeLemmas.{IsAscending-span, filtered_apart, has-span}, SetLaws.IsAscending-put_all, SetLemmas.{AscendsFrom-filter, has-filter, same_members}}
use Rattle.bit_set.proofs.MissingLemmas.{has-missing}
use Rattle.set_algebra.proofs.SubsetLemmas.{is_disjoint-members}

-- ---- a range in two parts

pub parts_joined : (s : List ℕ) (a b : ℕ) → IsAscending s → union (difference (span a b) s) (those_in_range s a b) ≡ span a b
parts_joined s a b up =
    same_members _ (span a b) (IsAscending-put_all (difference (span a b) s) (those_in_range s a b) (AscendsFrom-filter 0 _ (span a b) (IsAscending-span a b))) (IsAscending-span a b) (λ n.
    has-union (difference (span a b) s) (those_in_range s a b) n ∙ grind (arith, has-missing a b s n, has-filter (in_range a b) s n, has-span a b n))

pub parts_apart : (s : List ℕ) (a b : ℕ) → IsTrue (is_disjoint (difference (span a b) s) (those_in_range s a b))
parts_apart s a b =
    (is_disjoint-members (difference (span a b) s) (those_in_range s a b)).1 (λ n out is_in.
    let lacks = has-missing a b s n in
    let member = has-filter (in_range a b) s n in
    false≢true (grind (arith, lacks, member, out, is_in)))

pub in_range_from_0 : (s : List ℕ) (n : ℕ) → those_in_range s 0 n ≡ those_below s n
in_range_from_0 [] n = refl
in_range_from_0 (x ∷ xs) n = let rest = in_range_from_0 xs n in grind (arith, nat_tests, rest)

pub parts_counted : (s : List ℕ) (a b : ℕ) → IsAscending s → length (difference (span a b) s) + length (those_in_range s a b) ≡ length (span a b)
parts_counted s a b up =
    let among : those_in_range s a b ≡ filter (has s) (span a b) = same_members _ _ (AscendsFrom-filter 0 _ s up) (AscendsFrom-filter 0 _ (span a b) (IsAscending-span a b)) (λ n.
    grind (arith, has-filter (in_range a b) s n, has-filter (has s) (span a b) n, has-span a b n)) in
    ap (λ t. length (difference (span a b) s) + length t) among ∙ filtered_apart (has s) (span a b)

-- ---- what searches find

pub first_is_least : (s : List ℕ) (r : Option ℕ) → IsAscending s → IsFirstOf s r ↔ MatchOption r (HasNone s) (IsLeast s)
first_is_least s None up = (λ none n. ap (λ t. has t n) none, λ none. none_from_members s none)
first_is_least s (Some x) up = (
  λ first. let taken = takes_least 0 s x first.0 up first.1 in (taken.is_in, taken.least),
  λ least. (without s x, least_first s x up least),
)

-- the last of a set is in, and the greatest
greatest_from_last : (s rest : List ℕ) (x : ℕ) → IsAscending s → s ≡ rest ++ x ∷ [] → IsGreatest s x
greatest_from_last s rest x up is = (
  ap (λ t. has t x) is ∙ has-pushed rest x x ∙ grind (arith, nat_tests),
  λ n member.
      let below = init_below 0 rest x n (subst IsAscending is up) in
      let which : (has rest n || eqb x n) ≡ true = sym (has-pushed rest x n) ∙ sym (ap (λ t. has t n) is) ∙ member in
      grind (arith, nat_tests, below, which),
)

pub last_is_greatest : (s : List ℕ) (r : Option ℕ) → IsAscending s → IsLastOf s r ↔ MatchOption r (HasNone s) (IsGreatest s)
last_is_greatest s None up = (λ none n. ap (λ t. has t n) none, λ none. none_from_members s none)
last_is_greatest s (Some x) up = (λ last. greatest_from_last s last.0 x up last.1, λ greatest. (without s x, greatest_last s x up greatest))

finds_first : (s : List ℕ) (n : ℕ) (r : Option ℕ) → IsAscending s → IsFirstOf (those_from s n) r → FindsFrom (has s) n r
finds_first s n None up none = λ j from. let member = has-filter (λ y. nat_le n y) s j in let out = ap (λ t. has t j) none in grind (arith, nat_tests, member, out)
finds_first s n (Some x) up first =
    let least = (first_is_least (those_from s n) (Some x) (AscendsFrom-filter 0 (λ y. nat_le n y) s up)).0 first in
    let member = has-filter (λ y. nat_le n y) s x in
    record {
      passes = let is = least.0 in grind (arith, nat_tests, member, is);
      reached = let is = least.0 in grind (arith, nat_tests, member, is);
      between = λ j from below. let other = has-filter (λ y. nat_le n y) s j in let above = least.1 j in grind (arith, nat_tests, other, above);
    }

finds_last : (s : List ℕ) (n : ℕ) (r : Option ℕ) → IsAscending s → IsLastOf (those_below s n) r → FindsBefore (has s) n r
finds_last s n None up none = λ j below. let member = has-filter (λ y. ltb y n) s j in let out = ap (λ t. has t j) none in grind (arith, nat_tests, member, out)
finds_last s n (Some x) up last =
    let greatest = (last_is_greatest (those_below s n) (Some x) (AscendsFrom-filter 0 (λ y. ltb y n) s up)).0 last in
    let member = has-filter (λ y. ltb y n) s x in
    record {
      passes = let is = greatest.0 in grind (arith, nat_tests, member, is);
      before = let is = greatest.0 in grind (arith, nat_tests, member, is);
      between = λ j past below. let other = has-filter (λ y. ltb y n) s j in let high = greatest.1 j in grind (arith, nat_tests, other, high);
    }

pub next_is_least : (s : List ℕ) (n : ℕ) (r : Option ℕ) → IsAscending s → FindsFrom (has s) n r ↔ IsFirstOf (those_from s n) r
next_is_least s n r up = (first_of_those s n r up, finds_first s n r up)

pub previous_is_greatest : (s : List ℕ) (n : ℕ) (r : Option ℕ) → IsAscending s → FindsBefore (has s) n r ↔ IsLastOf (those_below s n) r
previous_is_greatest s n r up = (last_of_those s n r up, finds_last s n r up)
