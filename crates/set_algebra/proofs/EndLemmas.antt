-- The first and the last of a set, and of its members from a number on or below it.
use Rattle.std.proofs.Common.{◌≡◌, ℕ, ◌+◌, ◌<◌, ◌≤◌, Bool, true, false, not, ◌||◌, eqb, ltb, nat_le, List, [], ◌∷◌, ◌++◌, length, get_or, Option, Some, None}
use Rattle.std.proofs.Common.{sym, ap, ◌∙◌, arith}
use Rattle.std.proofs.lemmas.{Bool.Decides.nat_tests, List.{Folds.list_any-append}}
use Rattle.std.specs.{Prelude.{IfSome, MatchOption, if◌then◌else◌, is_some, slice_set}, Iterator.{YieldsFirst}}
use Rattle.bit_blocks.{specs.Searches.{FindsBefore, FindsFrom, IsFirstFrom}, proofs.SearchLemmas.{finds_before_same, finds_from_same}}
use Rattle.bit_blocks.specs.Bounds.{greatest}
use Rattle.set_algebra.specs.{Choices.{IsFirstOf, IsGreatest, IsLastOf, IsLeast}, Members.{HasNone, TakesGreatest, TakesLeast}}
use Rattle.set_algebra.specs.Sets.{AscendsFrom, IsAscending, has, elements, those_below, those_from, without}
use Rattle.set_algebra.proofs.MemberLemmas.{none_from_members, updates_without}
use Rattle.set_algebra.proofs.{SetLemmas.{AscendsFrom-filter, IsAscending-elements, elements-set_false, has-elements, has-filter, has-first, has-without, same_members}, ValueLemmas.has-within}

-- ---- lists that ascend

-- from each number that no member is below
pub ascends_above : (low n : ℕ) (s : List ℕ) → AscendsFrom low s → ((m : ℕ) → has s m ≡ true → n ≤ m) → AscendsFrom n s
ascends_above low n [] up above = tt
ascends_above low n (x ∷ xs) up above = (above x (has-first x xs), up.1)

-- with one more that is above all
pub ascends_pushed : (low : ℕ) (s : List ℕ) (x : ℕ) → AscendsFrom low s → low ≤ x → ((m : ℕ) → has s m ≡ true → m < x) → AscendsFrom low (s ++ x ∷ [])
ascends_pushed low [] x up from below = (from, tt)
ascends_pushed low (y ∷ ys) x up from below =
    (up.0, ascends_pushed (y + 1) ys x up.1 (let first = below y (has-first y ys) in omega (arith, first)) (λ m is. below m (grind (arith, is))))

pub has-pushed : (s : List ℕ) (x m : ℕ) → has (s ++ x ∷ []) m ≡ (has s m || eqb x m)
has-pushed s x m = list_any-append (λ y. eqb y m) s (x ∷ []) ∙ grind arith

-- the least member comes first
pub least_first : (s : List ℕ) (x : ℕ) → IsAscending s → IsLeast s x → s ≡ x ∷ without s x
least_first s x up least =
    same_members s (x ∷ without s x) up (
      omega arith,
      ascends_above 0 (x + 1) (without s x) (AscendsFrom-filter 0 (λ y. not (eqb y x)) s up) (λ m is.
          let member = has-without s x m in let low = least.1 m in grind (arith, nat_tests)),
    ) (λ m. let rest = has-without s x m in let is = least.0 in grind (arith, nat_tests))

-- and the greatest last
pub greatest_last : (s : List ℕ) (x : ℕ) → IsAscending s → IsGreatest s x → s ≡ without s x ++ x ∷ []
greatest_last s x up greatest =
    same_members s (without s x ++ x ∷ []) up
    (ascends_pushed 0 (without s x) x (AscendsFrom-filter 0 (λ y. not (eqb y x)) s up) (omega arith) (λ m is.
    let member = has-without s x m in let high = greatest.1 m in grind (arith, nat_tests)))
    (λ m. let rest = has-without s x m in let pushed = has-pushed (without s x) x m in let is = greatest.0 in grind (arith, nat_tests))

-- ---- searches of a list of truth values, as of the members

pub finds_members : (bs : List Bool) (n : ℕ) (r : Option ℕ) → FindsFrom (λ i. get_or bs i false) n r → FindsFrom (has (elements bs)) n r
finds_members bs n r = finds_from_same (λ i. get_or bs i false) (has (elements bs)) n r (λ i. sym (has-elements bs i))

pub finds_members_before : (bs : List Bool) (n : ℕ) (r : Option ℕ) → FindsBefore (λ i. get_or bs i false) n r → FindsBefore (has (elements bs)) n r
finds_members_before bs n r = finds_before_same (λ i. get_or bs i false) (has (elements bs)) n r (λ i. sym (has-elements bs i))

pub finds_missing : (bs : List Bool) (n i : ℕ) → IsFirstFrom (λ j. not (get_or bs j false)) n i → IsFirstFrom (λ m. not (has (elements bs) m)) n i
finds_missing bs n i = finds_from_same (λ j. not (get_or bs j false)) (λ m. not (has (elements bs) m)) n (Some i) (λ j. ap not (sym (has-elements bs j)))

-- what is found is below the length
pub found_within : (bs : List Bool) (n : ℕ) (r : Option ℕ) → length bs ≤ greatest → FindsFrom (has (elements bs)) n r → IfSome r (λ x. (x < length bs) × (x < greatest))
found_within bs n None fits none = tt
found_within bs n (Some x) fits first = let below = has-within bs x first.passes in (below, omega (arith, below, fits))

pub found_within_before : (bs : List Bool) (n : ℕ) (r : Option ℕ) → length bs ≤ greatest → FindsBefore (has (elements bs)) n r → IfSome r (λ x. (x < length bs) × (x < greatest))
found_within_before bs n None fits none = tt
found_within_before bs n (Some x) fits last = let below = has-within bs x last.passes in (below, omega (arith, below, fits))

-- ---- what searches find

-- the first of those from a number on
pub first_of_those : (s : List ℕ) (n : ℕ) (r : Option ℕ) → IsAscending s → FindsFrom (has s) n r → IsFirstOf (those_from s n) r
first_of_those s n None up none =
    none_from_members (those_from s n) (λ m. let member = has-filter (λ y. nat_le n y) s m in let out = none m in grind (arith, nat_tests))
first_of_those s n (Some x) up first = (
  without (those_from s n) x,
  least_first (those_from s n) x (AscendsFrom-filter 0 (λ y. nat_le n y) s up) (
    (let member = has-filter (λ y. nat_le n y) s x in let is = first.passes in let reached = first.reached in grind (arith, nat_tests)),
    λ m is. let member = has-filter (λ y. nat_le n y) s m in let between = first.between m in grind (arith, nat_tests),
  ),
)

-- the last of those below it
pub last_of_those : (s : List ℕ) (n : ℕ) (r : Option ℕ) → IsAscending s → FindsBefore (has s) n r → IsLastOf (those_below s n) r
last_of_those s n None up none =
    none_from_members (those_below s n) (λ m. let member = has-filter (λ y. ltb y n) s m in let out = none m in grind (arith, nat_tests))
last_of_those s n (Some x) up last = (
  without (those_below s n) x,
  greatest_last (those_below s n) x (AscendsFrom-filter 0 (λ y. ltb y n) s up) (
    (let member = has-filter (λ y. ltb y n) s x in let is = last.passes in let before = last.before in grind (arith, nat_tests)),
    λ m is. let member = has-filter (λ y. ltb y n) s m in let between = last.between m in grind (arith, nat_tests),
  ),
)

-- of all
pub least_of_all : (s : List ℕ) (r : Option ℕ) → FindsFrom (has s) 0 r → MatchOption r (HasNone s) (IsLeast s)
least_of_all s None none = λ m. none m (omega arith)
least_of_all s (Some x) first = (first.passes, λ m is. let between = first.between m (omega arith) in grind arith)

pub greatest_of_all : (s : List ℕ) (n : ℕ) (r : Option ℕ) → ((m : ℕ) → has s m ≡ true → m < n) → FindsBefore (has s) n r → MatchOption r (HasNone s) (IsGreatest s)
greatest_of_all s n None within none = λ m. let below = within m in let out = none m in grind arith
greatest_of_all s n (Some x) within last =
    (last.passes, λ m is. let below = within m is in let between = last.between m in grind arith)

-- ---- what is left where an end is taken out

pub takes_first : (s t : List ℕ) (x : ℕ) → IsAscending s → IsLeast s x → t ≡ without s x → (s ≡ x ∷ t) × TakesLeast s x t
takes_first s t x up least is = (
  least_first s x up least ∙ ap (λ rest. x ∷ rest) (sym is),
  record { is_in = least.0; least = least.1; others = updates_without s x is },
)

pub takes_last : (s t : List ℕ) (x : ℕ) → IsAscending s → IsGreatest s x → t ≡ without s x → (s ≡ t ++ x ∷ []) × TakesGreatest s x t
takes_last s t x up greatest is = (
  greatest_last s x up greatest ∙ ap (λ rest. rest ++ x ∷ []) (sym is),
  record { is_in = greatest.0; greatest = greatest.1; others = updates_without s x is },
)

-- where the first true value became false
pub popped_first : (old new : List Bool) (r : Option ℕ) → FindsFrom (λ i. get_or old i false) 0 r → MatchOption r (new ≡ old) (λ i. new ≡ slice_set old i false)
    → YieldsFirst elements old r new × MatchOption r (HasNone (elements old)) (λ x. TakesLeast (elements old) x (elements new))
popped_first old new None none same =
    let members = least_of_all (elements old) None (finds_members old 0 None none) in
    let empty = none_from_members (elements old) members in
    ((empty, ap elements same ∙ empty), members)
popped_first old new (Some x) first is =
    let members = finds_members old 0 (Some x) first in
    takes_first (elements old) (elements new) x (IsAscending-elements old) (least_of_all (elements old) (Some x) members) (ap elements is ∙ elements-set_false old x (has-within old x members.passes))

pub count_popped_first : (old new : List Bool) (r : Option ℕ) → YieldsFirst elements old r new → length (elements new) + (if is_some r then 1 else 0) ≡ length (elements old)
count_popped_first old new None none = omega (arith, ap length none.0, ap length none.1)
count_popped_first old new (Some x) is = omega (arith, ap length is)
