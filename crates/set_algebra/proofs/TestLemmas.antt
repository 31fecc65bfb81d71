-- What tests and choices among the members of a set say of the members.
use Rattle.std.proofs.Common.{◌≡◌, ℕ, ◌+◌, ◌-◌, ◌<◌, ◌≤◌, ◌&&◌, ◌⊎◌, inl, max, min, Bool, false, filter, nat_le, nat_lt, List, [], ◌∷◌, map, length, Option, Some, None, IsTrue, MatchOption, refl, arith}
use Rattle.std.proofs.{lemmas.Bool.Decides.nat_tests}
use Rattle.std.specs.List.{find, fold, last_or, list_any, position_or_len, reduce}
use Rattle.set_algebra.specs.{Choices.{IsGreatest, IsLeast, IsLeastPassing}, Members.HasNone, Sets.{AscendsFrom, IsAscending, has, those_below, those_from}}
use Rattle.set_algebra.proofs.{SetLemmas.{has-below, has-filter}, SetLaws.has-put_all}

-- ---- some member passes a test

pub any_passes : (p : ℕ → Bool) (s : List ℕ) → IsTrue (list_any p s) → (x : ℕ) × IsTrue (has s x) × IsTrue (p x)
any_passes p [] is = grind arith
any_passes p (y ∷ ys) is = let rest = any_passes p ys in grind (arith, nat_tests)

pub any_from_one : (p : ℕ → Bool) (s : List ℕ) (x : ℕ) → IsTrue (has s x) → IsTrue (p x) → IsTrue (list_any p s)
any_from_one p [] x is passes = grind arith
any_from_one p (y ∷ ys) x is passes = let rest = any_from_one p ys x in grind (arith, nat_tests)

-- a test keeps nothing, or some member passes it
pub filter_none : (p : ℕ → Bool) (s : List ℕ) → (filter p s ≡ []) ⊎ ((x : ℕ) × IsTrue (has s x) × IsTrue (p x))
filter_none p [] = inl refl
filter_none p (y ∷ ys) = let rest = filter_none p ys in grind (arith, nat_tests)

-- a test keeps all, or some member does not pass it
pub filter_all : (p : ℕ → Bool) (s : List ℕ) → (filter p s ≡ s) ⊎ ((x : ℕ) × IsTrue (has s x) × (p x ≡ false))
filter_all p [] = inl refl
filter_all p (y ∷ ys) = let rest = filter_all p ys in grind (arith, nat_tests)

-- the same where the test is a bound
pub below_none : (s : List ℕ) (n : ℕ) → (those_below s n ≡ []) ⊎ ((x : ℕ) × IsTrue (has s x) × (x < n))
below_none s n = let found = filter_none (λ x. nat_lt x n) s in grind (arith, nat_tests)

pub below_all : (s : List ℕ) (n : ℕ) → (those_below s n ≡ s) ⊎ ((x : ℕ) × IsTrue (has s x) × (n ≤ x))
below_all s n = let found = filter_all (λ x. nat_lt x n) s in grind (arith, nat_tests)

pub from_none : (s : List ℕ) (n : ℕ) → (those_from s n ≡ []) ⊎ ((x : ℕ) × IsTrue (has s x) × (n ≤ x))
from_none s n = let found = filter_none (λ x. nat_le n x) s in grind (arith, nat_tests)

pub from_all : (s : List ℕ) (n : ℕ) → (those_from s n ≡ s) ⊎ ((x : ℕ) × IsTrue (has s x) × (x < n))
from_all s n = let found = filter_all (λ x. nat_le n x) s in grind (arith, nat_tests)

-- ---- the first that passes, of a list that ascends, is the least that does, and its place the number of members below it

abbrev Finds : (ℕ → Bool) → List ℕ → Option ℕ → Type 0
Finds p s r = MatchOption r ((x : ℕ) → IsTrue (has s x) → p x ≡ false) (IsLeastPassing p s)

finds_from : (low : ℕ) (p : ℕ → Bool) (s : List ℕ) → AscendsFrom low s → Finds p s (find p s)
finds_from low p [] up = λ x is. cc
finds_from low p (y ∷ ys) up =
    let rest = finds_from (y + 1) p ys up.1 in
    let below = λ (x : ℕ). has-below (y + 1) ys x up.1 in
    grind (arith, nat_tests)

pub finds : (p : ℕ → Bool) (s : List ℕ) → IsAscending s → Finds p s (find p s)
finds p s up = finds_from 0 p s up

none_below : (low : ℕ) (s : List ℕ) (m : ℕ) → AscendsFrom low s → m ≤ low → length (those_below s m) ≡ 0
none_below low [] m up le = refl
none_below low (y ∷ ys) m up le = let rest = none_below (y + 1) ys m up.1 in grind (arith, nat_tests)

abbrev PlacedFrom : ℕ → List ℕ → ℕ → Option ℕ → Type 0
PlacedFrom low s n r = MatchOption r (n ≡ length s) (λ m. (low ≤ m) × (n ≡ length (those_below s m)))

placed_from : (low : ℕ) (p : ℕ → Bool) (s : List ℕ) → AscendsFrom low s → PlacedFrom low s (position_or_len p s) (find p s)
placed_from low p [] up = refl
placed_from low p (y ∷ ys) up =
    let rest = placed_from (y + 1) p ys up.1 in
    let none = none_below (y + 1) ys y up.1 in
    grind (arith, nat_tests)

pub places : (p : ℕ → Bool) (s : List ℕ) → IsAscending s → MatchOption (find p s) (position_or_len p s ≡ length s) (λ m. position_or_len p s ≡ length (those_below s m))
places p s up = let placed = placed_from 0 p s up in grind arith

-- ---- the greatest and the least

greatest_from : (a : ℕ) (ys : List ℕ) → IsGreatest (a ∷ ys) (fold max a ys)
greatest_from a [] = (grind (arith, nat_tests), λ x is. grind (arith, nat_tests))
greatest_from a (y ∷ ys) =
    let rest = greatest_from (max a y) ys in
    let most = rest.1 (max a y) in
    (grind (arith, nat_tests), λ x is. let above = rest.1 x in grind (arith, nat_tests))

least_from : (a : ℕ) (ys : List ℕ) → IsLeast (a ∷ ys) (fold min a ys)
least_from a [] = (grind (arith, nat_tests), λ x is. grind (arith, nat_tests))
least_from a (y ∷ ys) =
    let rest = least_from (min a y) ys in
    let least = rest.1 (min a y) in
    (grind (arith, nat_tests), λ x is. let below = rest.1 x in grind (arith, nat_tests))

pub greatest_of : (s : List ℕ) → MatchOption (reduce max s) (HasNone s) (IsGreatest s)
greatest_of [] = λ x. refl
greatest_of (y ∷ ys) = greatest_from y ys

pub least_of : (s : List ℕ) → MatchOption (reduce min s) (HasNone s) (IsLeast s)
least_of [] = λ x. refl
least_of (y ∷ ys) = least_from y ys

last_from : (y : ℕ) (ys : List ℕ) → AscendsFrom (y + 1) ys → last_or (Some y) ys ≡ Some (fold max y ys)
last_from y [] up = refl
last_from y (z ∷ zs) up = let rest = last_from z zs up.1 in grind arith

pub last_is_greatest : (s : List ℕ) → IsAscending s → last_or None s ≡ reduce max s
last_is_greatest [] up = refl
last_is_greatest (y ∷ ys) up = last_from y ys up.1

-- ---- what a function gives of some member

pub mapped_member : (f : ℕ → ℕ) (s : List ℕ) (x : ℕ) → IsTrue (has (map f s) x) → (m : ℕ) × IsTrue (has s m) × (f m ≡ x)
mapped_member f [] x is = grind arith
mapped_member f (y ∷ ys) x is = let rest = mapped_member f ys x in grind (arith, nat_tests)

pub has-mapped : (f : ℕ → ℕ) (s : List ℕ) (m : ℕ) → IsTrue (has s m) → IsTrue (has (map f s) (f m))
has-mapped f [] m is = grind arith
has-mapped f (y ∷ ys) m is = let rest = has-mapped f ys m in grind (arith, nat_tests)

pub has-raised : (s : List ℕ) (by x : ℕ) → has (map (λ m. m + by) s) x ≡ (nat_le by x && has s (x - by))
has-raised [] by x = grind arith
has-raised (y ∷ ys) by x = let rest = has-raised ys by x in grind (arith, nat_tests)

-- the laws of `src/laws.rt` by these
pub ruleset searches_of_members = (any_passes, any_from_one, finds, places)

pub ruleset members_of_chains = (has-filter, has-put_all, mapped_member, has-mapped, has-raised)
