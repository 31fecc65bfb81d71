-- Which sets are in which, and which have nothing in common.
use Rattle.std.proofs.{Common.{◌≡◌, ℕ, Bool, true, false, not, ◌&&◌, ◌↔◌, eqb, List, [], ◌∷◌, filter, slice_get, Some, refl, sym, ap, ◌∙◌, ⊎_elim, arith}, Math.Bool.not-not}
use Rattle.std.proofs.lemmas.Bool.{true≢false, false≢true, and_from, or_right, not-true}
use Rattle.std.{proofs.lemmas.Bool.{not_from_false, cases_Bool, Decides.nat_tests}, specs.{Prelude.IsTrue, List.list_all, Cmp.nat_cmp_total}}
use Rattle.std.specs.FinSet as set
use Rattle.set_algebra.specs.{Runs.IsProperSubset, Sets.{IsAscending, has, elements, intersection, difference, is_subset, is_disjoint}}
use Rattle.set_algebra.proofs.{SetLemmas.{same_members, has-first}, SetLaws.{slice_get-elements, contains-has, finite}}

-- ---- a test that each member passes

pub each_passes : (p : ℕ → Bool) (s : List ℕ) → list_all p s ≡ true → (n : ℕ) → has s n ≡ true → p n ≡ true
each_passes p [] all n is = absurd (true≢false (sym is))
each_passes p (x ∷ xs) all n is = let rest = λ (each : list_all p xs ≡ true) (there : has xs n ≡ true). each_passes p xs each n there in grind (arith, nat_tests, rest)

pub all_pass : (p : ℕ → Bool) (s : List ℕ) → ((n : ℕ) → has s n ≡ true → p n ≡ true) → list_all p s ≡ true
all_pass p [] each = refl
all_pass p (x ∷ xs) each = and_from (p x) (list_all p xs) (each x (has-first x xs)) (all_pass p xs (λ n is. each n (or_right (eqb x n) (has xs n) is)))

-- no member fails the test exactly where a filter for those that fail keeps none
none_fails : (p q : ℕ → Bool) (s : List ℕ) → ((n : ℕ) → q n ≡ not (p n)) → list_all p s ≡ true → filter q s ≡ []
none_fails p q [] other all = refl
none_fails p q (x ∷ xs) other all = let rest = λ (each : list_all p xs ≡ true). none_fails p q xs other each in let here = other x in grind (arith, rest)

none_kept : (p q : ℕ → Bool) (s : List ℕ) → ((n : ℕ) → q n ≡ not (p n)) → filter q s ≡ [] → list_all p s ≡ true
none_kept p q [] other none = refl
none_kept p q (x ∷ xs) other none = let rest = λ (less : filter q xs ≡ []). none_kept p q xs other less in let here = other x in grind (arith, rest)

-- ---- subsets

pub is_subset-members : (s t : List ℕ) → (is_subset s t ≡ true) ↔ ((n : ℕ) → has s n ≡ true → has t n ≡ true)
is_subset-members s t = (each_passes (λ n. has t n) s, all_pass (λ n. has t n) s)

pub is_disjoint-members : (s t : List ℕ) → (is_disjoint s t ≡ true) ↔ ((n : ℕ) → has s n ≡ true → has t n ≡ true → ⊥)
is_disjoint-members s t = (
  λ all n in_s in_t. true≢false (sym in_t ∙ not-true (has t n) (each_passes (λ m. not (has t m)) s all n in_s)),
  λ apart. all_pass (λ m. not (has t m)) s (λ n in_s. ⊎_elim (λ in_t. absurd (apart n in_s in_t)) (λ out. not_from_false (has t n) out) (cases_Bool (has t n))),
)

pub is_subset-no_difference : (s t : List ℕ) → (is_subset s t ≡ true) ↔ (difference s t ≡ [])
is_subset-no_difference s t = (none_fails (λ n. has t n) (λ n. not (has t n)) s (λ n. refl), none_kept (λ n. has t n) (λ n. not (has t n)) s (λ n. refl))

pub is_disjoint-no_intersection : (s t : List ℕ) → (is_disjoint s t ≡ true) ↔ (intersection s t ≡ [])
is_disjoint-no_intersection s t = (none_fails (λ n. not (has t n)) (λ n. has t n) s (λ n. sym (not-not (has t n))), none_kept (λ n. not (has t n)) (λ n. has t n) s (λ n. sym (not-not (has t n))))

-- two tests that are true together are one
pub same_tests : (a b : Bool) → (a ≡ true → b ≡ true) → (b ≡ true → a ≡ true) → a ≡ b
same_tests a b there back = grind arith

pub is_subset-both_ways : (s t : List ℕ) → IsAscending s → IsAscending t → ((is_subset s t ≡ true) × (is_subset t s ≡ true)) ↔ (s ≡ t)
is_subset-both_ways s t s_up t_up = (
  λ both. same_members s t s_up t_up (λ n. same_tests (has s n) (has t n) ((is_subset-members s t).0 both.0 n) ((is_subset-members t s).0 both.1 n)),
  λ e. ((is_subset-members s t).1 (λ n is. ap (λ u. has u n) (sym e) ∙ is), (is_subset-members t s).1 (λ n is. ap (λ u. has u n) e ∙ is)),
)

pub is_subset-finite : (s t : List ℕ) → is_subset s t ≡ set.is_subset (finite s) (finite t)
is_subset-finite s t =
    same_tests (is_subset s t) (set.is_subset (finite s) (finite t))
    (λ all. set.contains-is_subset nat_cmp_total (finite s) (finite t) (λ n is. contains-has t n ∙ (is_subset-members s t).0 all n (sym (contains-has s n) ∙ is)))
    (λ all. (is_subset-members s t).1 (λ n is. sym (contains-has t n) ∙ set.is_subset-contains nat_cmp_total (finite s) (finite t) all n (contains-has s n ∙ is)))

-- ---- the sets that two lists of truth values keep

pub is_subset-elements : (value : Bool) (a b : List Bool) → ((value ≡ true) ↔ ((i : ℕ) → slice_get a i ≡ Some true → slice_get b i ≡ Some true)) → value ≡ is_subset (elements a) (elements b)
is_subset-elements value a b each =
    let members = is_subset-members (elements a) (elements b) in
    same_tests value (is_subset (elements a) (elements b)) (λ is. members.1 (λ n in_a. (slice_get-elements b n).1 (each.0 is n ((slice_get-elements a n).0 in_a))))
    (λ all. each.1 (λ i at. (slice_get-elements b i).0 (members.0 all i ((slice_get-elements a i).1 at))))

pub is_disjoint-elements : (value : Bool) (a b : List Bool) → ((value ≡ true) ↔ ((i : ℕ) → slice_get a i ≡ Some true → slice_get b i ≡ Some true → ⊥)) → value ≡ is_disjoint (elements a) (elements b)
is_disjoint-elements value a b each =
    let members = is_disjoint-members (elements a) (elements b) in
    same_tests value (is_disjoint (elements a) (elements b)) (λ is. members.1 (λ n in_a in_b. each.0 is n ((slice_get-elements a n).0 in_a) ((slice_get-elements b n).0 in_b)))
    (λ all. each.1 (λ i at_a at_b. members.0 all i ((slice_get-elements a i).1 at_a) ((slice_get-elements b i).1 at_b)))

-- ---- proper subsets

-- a test that not each member passes fails at one
fails_at : (p : ℕ → Bool) (s : List ℕ) → list_all p s ≡ false → (n : ℕ) × (has s n ≡ true) × (p n ≡ false)
fails_at p [] none = absurd (false≢true (sym none))
fails_at p (x ∷ xs) none =
    ⊎_elim
    (λ (yes : p x ≡ true). let rest = fails_at p xs (grind (arith, yes, none)) in (rest.0, or_right (eqb x rest.0) (has xs rest.0) rest.1, rest.2))
    (λ (no : p x ≡ false). (x, has-first x xs, no))
    (cases_Bool (p x))

pub tells_proper : (b : Bool) (s t : List ℕ) → b ≡ (is_subset s t && not (is_subset t s)) → IsTrue b ↔ IsProperSubset s t
tells_proper b s t is = (
  λ yes.
      let further = fails_at (λ n. has s n) t (grind (arith, yes, is)) in
      ((is_subset-members s t).0 (grind (arith, yes, is)), further),
  λ proper.
      let within = (is_subset-members s t).1 proper.0 in
      let back : is_subset t s ≡ true → ⊥ = λ all. false≢true (sym proper.1.2 ∙ (is_subset-members t s).0 all proper.1.0 proper.1.1) in
      grind (arith, within, back, is),
)
