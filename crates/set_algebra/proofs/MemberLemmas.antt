-- What calls make of a set, as of every number whether it is in, and of how many there are.
use Rattle.std.proofs.Common.{◌≡◌, ℕ, ◌+◌, ◌<◌, ◌≤◌, ◌==◌, ◌++◌, Bool, true, false, not, ◌↔◌, cond, ◌||◌, ltb, nat_le, List, [], ◌∷◌, length, refl, sym, ap, subst, ◌∙◌, arith, IsTrue}
use Rattle.std.proofs.lemmas.Bool.{eq-eqb, true≢false, Decides.nat_tests}
use Rattle.std.specs.Cmp.Lexicographic.{bytes_decides}
use Rattle.bit_blocks.specs.{Bits.{Bits, IsWithinCapacity}, declared.block.merge.Merge.Merge}
use Rattle.bit_blocks.specs.Bounds.{greatest}
use Rattle.set_algebra.specs.{Members.{HasNone, IsCounted, IsDisjoint, IsMerged, IsSameSet, IsSubset, IsUnion, KeepsBelow, KeepsFrom, TakesGreatest, TakesLeast, Updates}, Order.same_sets}
use Rattle.set_algebra.specs.Sets.{AscendsFrom, IsAscending, elements, has}
use Rattle.set_algebra.specs.Sets.{is_disjoint, is_subset, merge_of_sets, put, put_all, those_below, those_from, without}
use Rattle.set_algebra.proofs.{ValueLemmas.{has-slice_get, has-within}, AlgebraLemmas.{has-merge_of_sets, has-union}}
use Rattle.set_algebra.proofs.SetLemmas.{has-elements, length-elements, AscendsFrom-lower, AscendsFrom-reach, IsAscending-elements, has-filter, has-put, has-without, length-elements-le, same_members}
use Rattle.set_algebra.proofs.SizeLemmas.{length-put, length-without}
use Rattle.set_algebra.proofs.SizeLemmas.{least-first, without-first}
use Rattle.set_algebra.proofs.SubsetLemmas.{is_disjoint-members, is_subset-members, is_subset-no_difference, is_disjoint-no_intersection, is_subset-both_ways, is_subset-finite}
use Rattle.set_algebra.proofs.SubsetLemmas.{each_passes, all_pass}

-- ---- one number

pub updates_put : (s : List ℕ) (n : ℕ) {t : List ℕ} → t ≡ put s n → Updates s t n true
updates_put s n is m = let gains = has-put s n m in grind (arith, nat_tests)

pub updates_without : (s : List ℕ) (n : ℕ) {t : List ℕ} → t ≡ without s n → Updates s t n false
updates_without s n is m = let loses = has-without s n m in grind (arith, nat_tests)

pub count_put : (values : List Bool) (t : List ℕ) (n : ℕ) (new : Bool) → t ≡ put (elements values) n → new ≡ not (has (elements values) n) → length t ≡ length (elements values) + cond new 1 0
count_put values t n new is says = let long = length-put (elements values) n (IsAscending-elements values) in grind arith

pub count_without : (values : List Bool) (t : List ℕ) (n : ℕ) (was : Bool) → t ≡ without (elements values) n → was ≡ has (elements values) n → length t + cond was 1 0 ≡ length (elements values)
count_without values t n was is says = let long = length-without (elements values) n (IsAscending-elements values) in grind arith

-- without its first an ascending list is the others
pub without_least : (low : ℕ) (s : List ℕ) (x : ℕ) (t : List ℕ) → AscendsFrom low s → s ≡ x ∷ t → without s x ≡ t
without_least low s x t up is =
    let ascending : IsAscending (x ∷ t) = subst IsAscending is (AscendsFrom-lower low 0 s (omega arith) up) in
    ap (λ u. without u x) is ∙ without-first x t ascending

-- the first of an ascending list is taken out
pub takes_least : (low : ℕ) (s : List ℕ) (x : ℕ) (t : List ℕ) → AscendsFrom low s → s ≡ x ∷ t → TakesLeast s x t
takes_least low s x t up is =
    let ascending : IsAscending (x ∷ t) = subst IsAscending is (AscendsFrom-lower low 0 s (omega arith) up) in
    record {
      is_in = ap (λ u. has u x) is ∙ ap (λ b. b || has t x) (eq-eqb x x refl);
      least = λ n within. least-first x t n ascending (ap (λ u. has u n) (sym is) ∙ within);
      others = updates_without s x (sym (without_least low s x t up is));
    }

-- those before the last of an ascending list are below it
pub init_below : (low : ℕ) (t : List ℕ) (x n : ℕ) → AscendsFrom low (t ++ x ∷ []) → has t n ≡ true → n < x
init_below low [] x n up within = absurd (true≢false (sym within))
init_below low (y ∷ ys) x n up within =
    let reach = AscendsFrom-reach (y + 1) ys x up.1 in
    let rest = init_below (y + 1) ys x n up.1 in
    grind (arith, nat_tests)

has-last : (t : List ℕ) (x n : ℕ) → has (t ++ x ∷ []) n ≡ (has t n || x == n)
has-last [] x n = grind arith
has-last (y ∷ ys) x n = let rest = has-last ys x n in grind arith

-- the last of an ascending list is taken out
pub takes_greatest : (s t : List ℕ) (x : ℕ) → IsAscending s → s ≡ t ++ x ∷ [] → TakesGreatest s x t
takes_greatest s t x up is =
    let ascending : AscendsFrom 0 (t ++ x ∷ []) = subst IsAscending is up in
    let member = λ (n : ℕ). ap (λ u. has u n) is ∙ has-last t x n in
    record {
      is_in = let here = member x in grind (arith, nat_tests);
      greatest = λ n within. let here = member n in let below = init_below 0 t x n ascending in grind (arith, nat_tests);
      others = λ n. let here = member n in let below = init_below 0 t x n ascending in grind (arith, nat_tests);
    }

-- ---- several sets

pub members_below : (s : List ℕ) (n : ℕ) {t : List ℕ} → t ≡ those_below s n → KeepsBelow s t n
members_below s n is m = ap (λ u. has u m) is ∙ has-filter (λ x. ltb x n) s m

pub members_from : (s : List ℕ) (n : ℕ) {t : List ℕ} → t ≡ those_from s n → KeepsFrom s t n
members_from s n is m = ap (λ u. has u m) is ∙ has-filter (λ x. nat_le n x) s m

pub members_put_all : (s items t : List ℕ) → t ≡ put_all s items → IsUnion s items t
members_put_all s items t is m = ap (λ u. has u m) is ∙ has-union s items m

pub members_merged : (merge : Merge) (s t r : List ℕ) → r ≡ merge_of_sets merge s t → IsMerged merge s t r
members_merged merge s t r is m = ap (λ u. has u m) is ∙ has-merge_of_sets merge s t m

-- ---- what a test says

pub none_from_members : (s : List ℕ) → HasNone s → s ≡ []
none_from_members [] none = refl
none_from_members (x ∷ xs) none = let here = none x in grind (arith, nat_tests)

pub tells_empty : (value : Bool) (s : List ℕ) → (IsTrue value ↔ (s ≡ [])) → IsTrue value ↔ HasNone s
tells_empty value s tells = (λ is m. ap (λ u. has u m) (tells.0 is), λ none. tells.1 (none_from_members s none))

pub tells_same : (value : Bool) (a b : List Bool) → value ≡ same_sets (elements a) (elements b) → IsTrue value ↔ IsSameSet (elements a) (elements b)
tells_same value a b says =
    let same = bytes_decides (elements a) (elements b) in
    let members = same_members (elements a) (elements b) (IsAscending-elements a) (IsAscending-elements b) in
    grind arith

pub tells_subset : (value : Bool) (s t : List ℕ) → value ≡ is_subset s t → IsTrue value ↔ IsSubset s t
tells_subset value s t says = rw says (is_subset-members s t)

pub tells_disjoint : (value : Bool) (s t : List ℕ) → value ≡ is_disjoint s t → IsTrue value ↔ IsDisjoint s t
tells_disjoint value s t says = let members = is_disjoint-members s t in grind arith

-- ---- how long a list is

pub counted : (values : List Bool) → length values ≤ greatest → IsCounted values
counted values fits = record { at_most = length-elements-le 0 values; fits = fits }

pub counted_within : (bits : Bits) → IsWithinCapacity bits → IsCounted bits.values
counted_within bits within = counted bits.values (omega (arith, within.holds_values, within.fits))

-- the laws of `src/laws.rt` by these
pub ruleset sets_in_one_another = (is_subset-members, is_disjoint-members, is_subset-no_difference, is_disjoint-no_intersection, is_subset-both_ways, is_subset-finite)

pub ruleset tests_of_members = (each_passes, all_pass, tells_same)

-- what calls read of a set by these
pub ruleset reads = (has-elements, has-slice_get, has-within, length-elements, counted_within)
