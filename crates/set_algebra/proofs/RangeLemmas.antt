-- What calls on a range do to a set, by its members.
use Rattle.std.proofs.Common.{◌≡◌, ℕ, zero, suc, ◌+◌, ◌-◌, ◌<◌, ◌≤◌, max, min, Bool, true, false, not, ◌&&◌, nat_le, nat_lt, cond, List, [], ◌∷◌, filter, ◌++◌, eqb, get_or, length, replicate, refl, sym, ap, ◌∙◌}
use Rattle.std.proofs.Common.{arith, ⊎_elim, Result, Ok, Err, OnOk}
use Rattle.std.{proofs.lemmas.{Bool.{cases_lt, Decides.nat_tests}, List.{get_or_append_left, get_or-append_right, get_or-replicate, get_or_past, length-replicate, Folds.list_any-append, FromFn.length-range_with_len}}, specs.List.range_with_len}
use Rattle.bit_blocks.specs.{declared.block.merge.Merge.TheVariants.Symmetric, Ranges.{changed_in_range, in_range}}
use Rattle.bit_blocks.proofs.RangeLemmas.{get_or-changed}
use Rattle.set_algebra.specs.{Members.UpdatesRange, Ranges.{span, span_end, those_in_range}}
use Rattle.set_algebra.specs.Sets.{AscendsFrom, IsAscending, bound_of, difference, elements, has, intersection, symmetric_difference, those_below, those_from, union}
use Rattle.set_algebra.proofs.{AlgebraLemmas.{IsAscending-merge_of_sets, has-symmetric, has-union}, SetLaws.IsAscending-put_all}
use Rattle.set_algebra.proofs.{SetLemmas.{AscendsFrom-filter, AscendsFrom-lower, has-elements, has-filter, has-first, same_members}, ValueLemmas.has-past}

-- ---- the numbers of a range

pub has-range_with_len : (a n k : ℕ) → has (range_with_len a n) k ≡ in_range a (a + n) k
has-range_with_len a zero k = grind (arith, nat_tests)
has-range_with_len a (suc n) k = let rest = has-range_with_len (a + 1) n k in grind (arith, nat_tests)

AscendsFrom-range_with_len : (a n : ℕ) → AscendsFrom a (range_with_len a n)
AscendsFrom-range_with_len a zero = tt
AscendsFrom-range_with_len a (suc n) = (omega arith, AscendsFrom-range_with_len (a + 1) n)

pub has-span : (a b k : ℕ) → has (span a b) k ≡ in_range a b k
unfolding span
has-span a b k = has-range_with_len a (b - a) k ∙ grind (arith, nat_tests)

pub IsAscending-span : (a b : ℕ) → IsAscending (span a b)
unfolding span
IsAscending-span a b = AscendsFrom-lower a 0 (range_with_len a (b - a)) (omega arith) (AscendsFrom-range_with_len a (b - a))

pub length-span : (a b : ℕ) → length (span a b) ≡ b - a
unfolding span
length-span a b = length-range_with_len a (b - a)

-- ---- the list of truth values

-- a changed range of a list that keeps the set changes these members
pub members_changed : (f : Bool → Bool) (a b : ℕ) (s : List ℕ) (mid new : List Bool) → elements mid ≡ s
    → (a < b → b ≤ length mid) → new ≡ changed_in_range f a b mid → UpdatesRange f s (elements new) a b
members_changed f a b s mid new same within is n =
    has-elements new n
    ∙ ap (λ bs. get_or bs n false) is
    ∙ get_or-changed f a b mid n within
    ∙ ap (λ x. cond (in_range a b n) (f x) x) (sym (has-elements mid n) ∙ ap (λ t. has t n) same)

-- the part of a range within a list is put in, and then the rest is added past it
pub members_filled : (a b : ℕ) (old mid new : List Bool) → a ≤ length mid → length mid ≤ b → UpdatesRange (λ _. true) (elements old) (elements mid) a (length mid)
    → new ≡ mid ++ replicate (b - length mid) true → UpdatesRange (λ _. true) (elements old) (elements new) a b
members_filled a b old mid new reaches within members is n =
    let k = b - length mid in
    let front = get_or_append_left mid (replicate k true) false n in
    let rest = get_or-append_right mid (replicate k true) (length mid) n false refl in
    let added = get_or-replicate k (n - length mid) true false in
    let past = get_or_past (replicate k true) (n - length mid) false in
    let of_new = has-elements new n ∙ ap (λ bs. get_or bs n false) is in
    grind (arith, nat_tests, members n, has-elements mid n, has-past mid n, length-replicate k true)

pub none_filled : (a : ℕ) (old mid : List Bool) → elements mid ≡ elements old → length mid ≡ a → UpdatesRange (λ _. true) (elements old) (elements mid) a (length mid)
none_filled a old mid same long n = ap (λ s. has s n) same ∙ grind (arith, nat_tests, long)

-- a range that is cut at the end of the list clears the same members
pub members_cleared : (a b c : ℕ) (bs new : List Bool) → c ≡ min b (length bs) → new ≡ changed_in_range (λ _. false) a c bs → UpdatesRange (λ _. false) (elements bs) (elements new) a b
members_cleared a b c bs new end is n = members_changed (λ _. false) a c (elements bs) bs new refl (λ _. omega arith) is n ∙ grind (arith, nat_tests, has-past bs n)

-- ---- what a set becomes

pub inserted_range : (a b : ℕ) (s t : List ℕ) → IsAscending s → IsAscending t → UpdatesRange (λ _. true) s t a b → t ≡ union s (span a b)
inserted_range a b s t up also members =
    same_members t _ also (IsAscending-put_all s (span a b) up) (λ n. members n ∙ grind (arith, nat_tests, has-union s (span a b) n, has-span a b n))

pub toggled_range : (a b : ℕ) (s t : List ℕ) → IsAscending s → IsAscending t → UpdatesRange not s t a b → t ≡ symmetric_difference s (span a b)
toggled_range a b s t up also members =
    same_members t _ also (IsAscending-merge_of_sets Symmetric s (span a b) up) (λ n. members n ∙ grind (arith, nat_tests, has-symmetric s (span a b) n, has-span a b n))

pub AscendsFrom-joined : (low m : ℕ) (xs ys : List ℕ) → low ≤ m → AscendsFrom low xs → ((n : ℕ) → has xs n ≡ true → n < m) → AscendsFrom m ys → AscendsFrom low (xs ++ ys)
AscendsFrom-joined low m [] ys le up below rest = AscendsFrom-lower m low ys le rest
AscendsFrom-joined low m (x ∷ xs) ys le up below rest =
    (up.0, AscendsFrom-joined (x + 1) m xs ys (let h = below x (has-first x xs) in omega arith) up.1 (λ n is. below n (grind (arith, nat_tests, is))) rest)

pub AscendsFrom-those_from : (low m : ℕ) (s : List ℕ) → AscendsFrom low s → AscendsFrom m (those_from s m)
AscendsFrom-those_from low m [] up = tt
AscendsFrom-those_from low m (x ∷ xs) up =
    let kept = AscendsFrom-filter (x + 1) (λ y. nat_le m y) xs up.1 in
    let rest = AscendsFrom-those_from (x + 1) m xs up.1 in
    grind (arith, nat_tests)

-- a set below one number and from another on
pub IsAscending-without_range : (a b : ℕ) (s : List ℕ) → IsAscending s → IsAscending (those_below s a ++ those_from s (max a b))
IsAscending-without_range a b s up =
    AscendsFrom-joined 0 (max a b) (those_below s a) (those_from s (max a b)) (omega arith) (AscendsFrom-filter 0 _ s up)
    (λ n is. let low = has-filter (λ x. nat_lt x a) s n in grind (arith, nat_tests))
    (AscendsFrom-those_from 0 (max a b) s up)

pub has-without_range : (a b : ℕ) (s : List ℕ) (n : ℕ) → has (those_below s a ++ those_from s (max a b)) n ≡ (not (in_range a b n) && has s n)
has-without_range a b s n =
    let low = has-filter (λ x. nat_lt x a) s n in
    let high = has-filter (λ x. nat_le (max a b) x) s n in
    let both = list_any-append (λ m. eqb m n) (those_below s a) (those_from s (max a b)) in
    grind (arith, nat_tests)

pub removed_range : (a b : ℕ) (s t : List ℕ) → IsAscending s → IsAscending t → UpdatesRange (λ _. false) s t a b → t ≡ those_below s a ++ those_from s (max a b)
removed_range a b s t up also members =
    same_members t _ also (IsAscending-without_range a b s up) (λ n. members n ∙ grind (arith, nat_tests, has-without_range a b s n))

-- what follows where a call succeeds
pub on_ok : {T E P Q : Type 0} (result : Result T E) → (P → Q) → OnOk result P → OnOk result Q
on_ok (Ok x) next is = next is
on_ok (Err e) next is = tt

-- ---- how many members it has then

pub filtered_apart : (p : ℕ → Bool) (s : List ℕ) → length (filter (λ n. not (p n)) s) + length (filter p s) ≡ length s
filtered_apart p [] = refl
filtered_apart p (x ∷ xs) = let rest = filtered_apart p xs in grind arith

-- those outside the range stay, whatever becomes of those in it
same_outside : (f : Bool → Bool) (a b : ℕ) (s t : List ℕ) → IsAscending s → IsAscending t → UpdatesRange f s t a b → filter (λ n. not (in_range a b n)) t ≡ filter (λ n. not (in_range a b n)) s
same_outside f a b s t up also members =
    same_members _ _ (AscendsFrom-filter 0 _ t also) (AscendsFrom-filter 0 _ s up) (λ n.
    let old = has-filter (λ m. not (in_range a b m)) s n in
    let new = has-filter (λ m. not (in_range a b m)) t n in
    let is = members n in
    grind arith)

pub count_removed : (a b : ℕ) (s t : List ℕ) → IsAscending s → IsAscending t → UpdatesRange (λ _. false) s t a b → length t + length (those_in_range s a b) ≡ length s
count_removed a b s t up also members =
    let none : those_in_range t a b ≡ [] = same_members _ [] (AscendsFrom-filter 0 _ t also) tt (λ n. let in_both = has-filter (in_range a b) t n in let is = members n in grind arith) in
    omega (arith, filtered_apart (in_range a b) s, filtered_apart (in_range a b) t, ap length (same_outside (λ _. false) a b s t up also members), ap length none)

pub count_inserted : (a b : ℕ) (s t : List ℕ) → IsAscending s → IsAscending t → UpdatesRange (λ _. true) s t a b → length t + length (those_in_range s a b) ≡ length s + (b - a)
count_inserted a b s t up also members =
    let all : those_in_range t a b ≡ span a b = same_members _ (span a b) (AscendsFrom-filter 0 _ t also) (IsAscending-span a b)
    (λ n. let in_both = has-filter (in_range a b) t n in let number = has-span a b n in let is = members n in grind arith) in
    omega (arith, filtered_apart (in_range a b) s, filtered_apart (in_range a b) t, ap length (same_outside (λ _. true) a b s t up also members), ap length all, length-span a b)

-- those of a range that are in
those_among : (s : List ℕ) (a b : ℕ) → IsAscending s → those_in_range s a b ≡ filter (has s) (span a b)
those_among s a b up = same_members _ _ (AscendsFrom-filter 0 _ s up) (AscendsFrom-filter 0 _ (span a b) (IsAscending-span a b))
    (λ n. grind (arith, has-filter (in_range a b) s n, has-filter (has s) (span a b) n, has-span a b n))

-- no more numbers of a range are in than it has
pub in_range-le : (s : List ℕ) (a b : ℕ) → IsAscending s → length (those_in_range s a b) ≤ b - a
in_range-le s a b up = omega (arith, ap length (those_among s a b up), filtered_apart (has s) (span a b), length-span a b)

pub count_toggled : (a b : ℕ) (s t : List ℕ) → IsAscending s → IsAscending t → UpdatesRange not s t a b
    → length (those_in_range t a b) + length (those_in_range s a b) ≡ b - a
count_toggled a b s t up also members =
    let are : those_in_range t a b ≡ filter (λ n. not (has s n)) (span a b) =
    same_members _ _ (AscendsFrom-filter 0 _ t also) (AscendsFrom-filter 0 _ (span a b) (IsAscending-span a b))
    (λ n. grind (arith, members n, has-filter (in_range a b) t n, has-filter (λ m. not (has s m)) (span a b) n, has-span a b n)) in
    omega (arith, ap length (those_among s a b up), ap length are, filtered_apart (has s) (span a b), length-span a b)

-- ---- the laws of `src/laws.rt`

bound-range_with_len : (a n : ℕ) → bound_of (range_with_len a (suc n)) ≡ a + n + 1
bound-range_with_len a zero = omega arith
bound-range_with_len a (suc n) = let rest = bound-range_with_len (a + 1) n in omega (arith, rest)

span-none : (a b : ℕ) → b ≤ a → span a b ≡ []
unfolding span
span-none a b none = ap (range_with_len a) (let e : b - a ≡ 0 = omega arith in e)

bound-some : (a b : ℕ) → a < b → bound_of (span a b) ≡ b
unfolding span
bound-some a b some =
    ap (λ n. bound_of (range_with_len a n)) (let e : b - a ≡ suc (b - a - 1) = omega arith in e) ∙ bound-range_with_len a (b - a - 1) ∙ omega arith

pub bound-span : (a b : ℕ) → bound_of (span a b) ≡ span_end a b
bound-span a b =
    ⊎_elim
    (λ some. bound-some a b some ∙ grind (arith, nat_tests, some))
    (λ (none : b ≤ a). ap bound_of (span-none a b none) ∙ grind (arith, nat_tests, none))
    (cases_lt a b)

pub among_span : (s : List ℕ) (a b : ℕ) → IsAscending s → those_in_range s a b ≡ intersection s (span a b)
among_span s a b up =
    same_members _ _ (AscendsFrom-filter 0 _ s up) (AscendsFrom-filter 0 _ s up) (λ n.
    has-filter (in_range a b) s n ∙ ap (λ x. x && has s n) (sym (has-span a b n)) ∙ sym (has-filter (λ m. has (span a b) m) s n))

pub without_span : (s : List ℕ) (a b : ℕ) → IsAscending s → those_below s a ++ those_from s (max a b) ≡ difference s (span a b)
without_span s a b up =
    same_members _ _ (IsAscending-without_range a b s up) (AscendsFrom-filter 0 _ s up) (λ n.
    has-without_range a b s n ∙ ap (λ x. not x && has s n) (sym (has-span a b n)) ∙ sym (has-filter (λ m. not (has (span a b) m)) s n))

pub toggled_twice : (s t : List ℕ) → IsAscending s → symmetric_difference (symmetric_difference s t) t ≡ s
toggled_twice s t up =
    same_members _ s (IsAscending-merge_of_sets Symmetric (symmetric_difference s t) t (IsAscending-merge_of_sets Symmetric s t up)) up (λ n.
    grind (arith, has-symmetric (symmetric_difference s t) t n, has-symmetric s t n))

pub ruleset numbers_of_ranges = (has-span, IsAscending-span, length-span, bound-span, without_span, among_span, toggled_twice)

-- what a range has that is missing, with what it has that is in
pub count_missing : (a b : ℕ) (s : List ℕ) → IsAscending s → length (difference (span a b) s) + length (those_in_range s a b) ≡ b - a
count_missing a b s up =
    let same : filter (has s) (span a b) ≡ those_in_range s a b = same_members _ _ (AscendsFrom-filter 0 (has s) (span a b) (IsAscending-span a b)) (AscendsFrom-filter 0 (in_range a b) s up)
    (λ n. let kept = has-filter (has s) (span a b) n in let in_both = has-filter (in_range a b) s n in let number = has-span a b n in grind arith) in
    omega (arith, filtered_apart (has s) (span a b), ap length same, length-span a b)
