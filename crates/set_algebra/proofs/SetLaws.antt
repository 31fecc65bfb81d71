-- What `put_all` and `bound_of` do, and the sets of `specs/Sets.antt` as finite sets of std.
use Rattle.std.proofs.Common.{◌≡◌, ℕ, ◌+◌, ◌<◌, ◌≤◌, Bool, true, false, ◌||◌, List, [], ◌∷◌, length, filter, slice_get, IsTrue, ◌↔◌, Some, sym, ap, ◌∙◌, refl, arith}
use Rattle.std.proofs.lemmas.Bool.{eqb-true, Decides.nat_tests}
use Rattle.std.{proofs.lemmas.{List.{ext_get_or, get_or_past}, Option.{get_or_from_slice_get, slice_get_cases}}, specs.{Cmp.{nat_cmp_total, unsigned_tied}, Ordering.{nat_cmp, is_eq}}}
use Rattle.std.proofs.Math.Bool.{or-false}
use Rattle.std.specs.FinSet as set
use Rattle.set_algebra.specs.Sets.{AscendsFrom, IsAscending, has, put, without, elements, put_all, bound_of}
use Rattle.set_algebra.proofs.SetLemmas.{AscendsFrom-put, has-below, has-put, has-filter, has-without, has-elements, same_members}

pub has-put_all : (s items : List ℕ) (m : ℕ) → has (put_all s items) m ≡ (has items m || has s m)
has-put_all s [] m = refl
has-put_all s (n ∷ ns) m = let rest = has-put_all (put s n) ns m in let here = has-put s n m in grind arith

pub IsAscending-put_all : (s items : List ℕ) → IsAscending s → IsAscending (put_all s items)
IsAscending-put_all s [] h = h
IsAscending-put_all s (n ∷ ns) h = IsAscending-put_all (put s n) ns (AscendsFrom-put 0 s n (omega arith) h)

-- every number is below the bound
pub bound_of-above : (ns : List ℕ) (n : ℕ) → has ns n ≡ true → n < bound_of ns
bound_of-above [] n h = grind arith
bound_of-above (x ∷ xs) n h = let rest = bound_of-above xs n in grind (arith, nat_tests)

-- no smaller number bounds them
pub bound_of-least : (ns : List ℕ) (b : ℕ) → ((n : ℕ) → has ns n ≡ true → n < b) → bound_of ns ≤ b
bound_of-least [] b each = omega arith
bound_of-least (x ∷ xs) b each =
    let here = each x in
    let rest = bound_of-least xs b (λ n h. let at = each n in grind (arith, nat_tests)) in
    grind (arith, nat_tests)

-- a number is an element exactly where the list has the value true at it
pub slice_get-elements : (values : List Bool) (m : ℕ) → IsTrue (has (elements values) m) ↔ (slice_get values m ≡ Some true)
slice_get-elements values m =
    let member = has-elements values m in
    let read = slice_get_cases values m in
    let value = get_or_from_slice_get values m true false in
    let past = get_or_past values m false in
    grind arith

-- a list of truth values is fixed by its elements and its length
pub same_values : (bs cs : List Bool) → elements bs ≡ elements cs → length bs ≡ length cs → bs ≡ cs
same_values bs cs same long = ext_get_or false bs cs long (λ i within. sym (has-elements bs i) ∙ ap (λ s. has s i) same ∙ has-elements cs i)

abbrev pub finite : List ℕ → set.FinSet nat_cmp
finite s = set.from_list s

pub contains-has : (s : List ℕ) (m : ℕ) → set.contains (finite s) m ≡ has s m
contains-has s m = set.contains-from_list_nat s m

pub same_finite : (s : List ℕ) (t : set.FinSet nat_cmp) → ((m : ℕ) → has s m ≡ set.contains t m) → finite s ≡ t
same_finite s t same = set.same_set nat_cmp_total set.nat_cmp-IsAntisymmetric (finite s) t (λ m. contains-has s m ∙ same m)

pub finite-put : (s : List ℕ) (n : ℕ) → finite (put s n) ≡ set.insert (finite s) n
finite-put s n =
    same_finite (put s n) _ (λ m. let ours = has-put s n m in let theirs = set.contains-insert nat_cmp_total (finite s) n m in grind (arith, nat_tests, unsigned_tied m n, contains-has s m))

pub finite-filter : (p : ℕ → Bool) (s : List ℕ) → finite (filter p s) ≡ set.retain (finite s) p
finite-filter p s =
    same_finite (filter p s) _ (λ m. let theirs = set.contains-retain (finite s) p m (λ x e. ap p (sym (eqb-true m x (sym (unsigned_tied m x) ∙ ap is_eq e)))) in
    grind (arith, has-filter p s m, contains-has s m))

pub finite-without : (s : List ℕ) (n : ℕ) → finite (without s n) ≡ set.remove (finite s) n
finite-without s n =
    same_finite (without s n) _ (λ m. let ours = has-without s n m in let theirs = set.contains-remove nat_cmp_total (finite s) n m in grind (arith, nat_tests, unsigned_tied m n, contains-has s m))

pub finite-put_all : (s items : List ℕ) → finite (put_all s items) ≡ set.union (finite s) (finite items)
finite-put_all s items =
    same_finite (put_all s items) _ (λ m. let ours = has-put_all s items m in
    let theirs = set.contains-union nat_cmp_total (finite s) (finite items) m in grind (arith, contains-has s m, contains-has items m))

-- an ascending list has as many members as it is long
pub len-finite : (low : ℕ) (s : List ℕ) → AscendsFrom low s → set.len (finite s) ≡ length s
len-finite low [] h = set.len-empty nat_cmp
len-finite low (x ∷ xs) h =
    let all = set.len-insert nat_cmp_total (finite xs) x in
    let new = contains-has xs x ∙ has-below (x + 1) xs x h.1 (omega arith) in
    let rest = len-finite (x + 1) xs h.1 in
    grind arith

-- the laws of `src/laws.rt` by these
pub ruleset members_of_sets = (has-put, has-without, has-filter, has-put_all, slice_get-elements)

pub ruleset sets_are_their_members = (same_members, same_values, bound_of-above, bound_of-least)

pub ruleset sets_are_finite_sets = (contains-has, finite-put, finite-without, finite-filter, len-finite)

-- the items of a set, put in one by one, are that set
pub put_all-items : (s : List ℕ) → IsAscending s → put_all [] s ≡ s
put_all-items s up = same_members (put_all [] s) s (IsAscending-put_all [] s tt) up (λ n. has-put_all [] s n ∙ or-false (has s n))
