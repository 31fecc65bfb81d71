-- What a caller cites of sets.
use Rattle.std.proofs.Common.{◌≡◌, ℕ, ◌+◌, ◌-◌, ◌*◌, ◌/◌, ◌%◌, ◌<◌, ◌≤◌, ◌↔◌, ◌++◌, ◌⊎◌, inl, inr, min, cond, Bool, true, false, ◌&&◌, ◌||◌, not, nat_le, nat_lt, ltb, None, Some}
use Rattle.std.proofs.Common.{filter, take, drop, List, [], ◌∷◌, IsTrue, refl, subst, sym, ap, ◌∙◌, zero, suc}
use Rattle.std.proofs.Common.{append_assoc, arith, div-add-mod', get_or, length, length-take, reverse, ◌==◌}
use Rattle.std.specs.{Cmp.Lexicographic.bytes_decides, List.{slice_get, Sorted.IsStrictlyIncreasing}, declared.ops.Range.Range}
use Rattle.std.proofs.Math.{ListN.drop_of_length-le, Nat.add-mod_right, Seq.{drop-length, take-append_seam}}
use Rattle.std.proofs.lemmas.{Bool.{cases_Bool, Decides.nat_tests}, Grind.take_at_read, Nat.mod-mul-add}
use Rattle.std.proofs.lemmas.{List.{append-nil, length-append, length-drop, length-take-le, reverse-append, take-append-le, take-take}, List.Folds.list_any-append, List.Sums.{length-filter, count_by-le-length, sum_by-append}}
use Rattle.bit_blocks.specs.Ranges.{in_range}
use Rattle.set_algebra.specs.{Members.{IsSameSet, KeepsFrom}, Runs.IsFirstRun, Order.same_sets, Ranges.{span, those_in_range}, Sets.{AscendsFrom, IsAscending, bound_of, difference, elements, has, intersection, is_disjoint, is_subset, put, those_below, those_from, union, without}}
use Rattle.set_algebra.proofs.{AlgebraLemmas.{has-difference, has-intersection, has-union, members_of_merged_sets}, SetLaws.IsAscending-put_all}
use Rattle.set_algebra.proofs.TestLemmas.{below_all, below_none, filter_all, filter_none, from_all, from_none}
use Rattle.set_algebra.proofs.PlaceLemmas.{all_by_places, any_by_places, at_place, has_place, in_order}
use Rattle.set_algebra.proofs.RangeLemmas.{IsAscending-span, filtered_apart, has-span, length-span}
use Rattle.set_algebra.proofs.{SizeLemmas.{length-put, length-without}, SubsetLemmas.is_subset-members}
use Rattle.set_algebra.proofs.SetLemmas.{AscendsFrom-filter, AscendsFrom-lower, AscendsFrom-put, IsAscending-elements, has-below, has-filter, has-first, has-put, has-without, same_members}

-- a test keeps no more than there is
pub length-filter-le : (p : ℕ → Bool) (s : List ℕ) → length (filter p s) ≤ length s
length-filter-le p s = omega (arith, length-filter p s, count_by-le-length p s)

-- the front of a list that has a first
pub take-first : (n x : ℕ) (xs : List ℕ) → 0 < n → take n (x ∷ xs) ≡ x ∷ take (n - 1) xs
take-first zero x xs pos = absurd (omega arith)
take-first (suc n) x xs pos = let less : n ≡ suc n - 1 = omega arith in ap (λ k. x ∷ take k xs) less

-- a list from its back has the same members
pub has-reverse : (s : List ℕ) (n : ℕ) → has (reverse s) n ≡ has s n
has-reverse [] n = refl
has-reverse (x ∷ xs) n =
    ap (λ l. has l n) (reverse-append (x ∷ []) xs)
    ∙ list_any-append (λ m. m == n) (reverse xs) (x ∷ []) ∙ (let rest = has-reverse xs n in grind (arith, nat_tests))

-- a list that ascends and had a number pushed ascends, or some member is no less
ascends_pushed_from : (low : ℕ) (s : List ℕ) (x : ℕ) → low ≤ x → AscendsFrom low s → AscendsFrom low (s ++ x ∷ []) ⊎ ((y : ℕ) × IsTrue (has s y) × (x ≤ y))
ascends_pushed_from low [] x from up = inl (from, tt)
ascends_pushed_from low (y ∷ ys) x from up =
    elim (cases_Bool (nat_le x y)) [
      | inl less ↦ inr (y, has-first y ys, grind (arith, nat_tests))
      | inr more ↦
          elim (ascends_pushed_from (y + 1) ys x (grind (arith, nat_tests)) up.1) [
            | inl rest ↦ inl (up.0, rest)
            | inr found ↦ inr (found.0, (let is = found.1 in grind (arith, nat_tests)), found.2)
          ]
    ]

pub ascends_pushed : (s : List ℕ) (x : ℕ) → IsAscending s → (s ++ x ∷ [] ≡ s ++ x ∷ []) × (IsAscending (s ++ x ∷ []) ⊎ ((y : ℕ) × IsTrue (has s y) × (x ≤ y)))
ascends_pushed s x up = (refl, ascends_pushed_from 0 s x (omega arith) up)

-- what a walk leaves ascends too, and the item is below all of it
pub walk_ascends : (x : ℕ) (rest : List ℕ) → (x ∷ rest ≡ x ∷ rest)
    × (IsAscending (x ∷ rest) → IsAscending rest × ((y : ℕ) → IsTrue (has rest y) → x < y))
walk_ascends x rest = (
  refl,
  λ up. (
    AscendsFrom-lower (x + 1) 0 rest (omega arith) up.1,
    λ y is. let below = has-below (x + 1) rest y up.1 in grind (arith, nat_tests, is, below),
  ),
)

-- std's word for a list that ascends
pub increasing : (s : List ℕ) → IsAscending s → IsStrictlyIncreasing s
increasing s up k within = in_order s k (k + 1) 0 0 up (omega arith) within

ascending_from : (low x : ℕ) (s : List ℕ) → low ≤ x → IsStrictlyIncreasing (x ∷ s) → AscendsFrom low (x ∷ s)
ascending_from low x [] from up = (from, tt)
ascending_from low x (y ∷ ys) from up =
    let first : x < y = up 0 (omega arith) in (
      from,
      ascending_from (x + 1) y ys (omega (arith, first)) (λ k within.
          let next : suc k + 1 ≡ suc (k + 1) = omega arith in
          subst (λ m. get_or (x ∷ y ∷ ys) (suc k) 0 < get_or (x ∷ y ∷ ys) m 0) next (up (suc k) (omega (arith, within)))),
    )

pub ascending : (s : List ℕ) → IsStrictlyIncreasing s → IsAscending s
ascending [] up = tt
ascending (x ∷ s) up = ascending_from 0 x s (omega arith) up

-- the members below a number are a front of the list, as long as the number's rank, and those from it on are the rest
ranked_from : (low n : ℕ) (s : List ℕ) → AscendsFrom low s
    → (those_below s n ≡ take (length (those_below s n)) s) × (those_from s n ≡ drop (length (those_below s n)) s)
ranked_from low n [] up = (refl, refl)
ranked_from low n (x ∷ xs) up =
    let rest = ranked_from (x + 1) n xs up.1 in
    let none = below_none xs n in
    let all = from_all xs n in
    let below = λ (y : ℕ). has-below (x + 1) xs y up.1 in
    grind (arith, nat_tests)

pub ranked : (s : List ℕ) (n : ℕ) → IsAscending s
    → (those_below s n ≡ take (length (those_below s n)) s) × (those_from s n ≡ drop (length (those_below s n)) s)
ranked s n up = ranked_from 0 n s up

-- a range has no member, or some; and all its numbers are members, or one is not
pub counted_in_range : (s : List ℕ) (a b : ℕ) → (those_in_range s a b ≡ those_in_range s a b)
    × (((length (those_in_range s a b) ≡ 0) × ((x : ℕ) → a ≤ x → x < b → has s x ≡ false))
    ⊎ ((x : ℕ) × (0 < length (those_in_range s a b)) × (a ≤ x) × (x < b) × IsTrue (has s x)))
counted_in_range [] a b = (refl, inl (refl, λ x from to. refl))
counted_in_range (y ∷ ys) a b = (
  refl,
  elim (cases_Bool (in_range a b y)) [
    | inl inside ↦ inr (y, grind (arith, inside), grind (arith, nat_tests, inside), grind (arith, nat_tests, inside), has-first y ys)
    | inr outside ↦
        elim (counted_in_range ys a b).1 [
          | inl none ↦ inl (grind (arith, outside, none), λ x from to. grind (arith, nat_tests, outside, from, to, none.1 x from to))
          | inr some ↦ inr (some.0, grind (arith, outside, some.1), some.2, some.3, grind (arith, some.4))
        ]
  ],
)

first_from : (low : ℕ) (s : List ℕ) (a b : ℕ) → AscendsFrom low s → (those_in_range s a b ≡ [])
    ⊎ ((x : ℕ) × (rest : List ℕ) × (those_in_range s a b ≡ x ∷ rest) × IsTrue (has s x) × (a ≤ x) × (x < b)
    × ((y : ℕ) → a ≤ y → y < x → has s y ≡ false))
first_from low [] a b up = inl refl
first_from low (z ∷ zs) a b up =
    let earlier = λ (y : ℕ). has-below (z + 1) zs y up.1 in
    elim (cases_Bool (in_range a b z)) [
      | inl inside ↦ inr (
        z,
        filter (in_range a b) zs,
        grind (arith, inside),
        has-first z zs,
        grind (arith, nat_tests, inside),
        grind (arith, nat_tests, inside),
        λ y from to. grind (arith, nat_tests, from, to, earlier y),
      )
      | inr outside ↦
          elim (first_from (z + 1) zs a b up.1) [
            | inl none ↦ inl (grind (arith, outside, none))
            | inr some ↦ inr (
              some.0,
              some.1,
              grind (arith, outside, some.2),
              grind (arith, some.3),
              some.4,
              some.5,
              λ y from to. let rest = some.6 y from to in grind (arith, nat_tests, outside, from, to, rest, some.5),
            )
          ]
    ]

-- the first member in a range, with none before it
pub first_in_range : (s : List ℕ) (a b : ℕ) → (those_in_range s a b ≡ those_in_range s a b) × (IsAscending s → (those_in_range s a b ≡ [])
    ⊎ ((x : ℕ) × (rest : List ℕ) × (those_in_range s a b ≡ x ∷ rest) × IsTrue (has s x) × (a ≤ x) × (x < b)
    × ((y : ℕ) → a ≤ y → y < x → has s y ≡ false)))
first_in_range s a b = (refl, first_from 0 s a b)

-- those in a range from 0 on
pub from_zero : (s : List ℕ) (n : ℕ) → those_in_range s 0 n ≡ those_below s n
from_zero [] n = refl
from_zero (x ∷ xs) n = let rest = from_zero xs n in grind (arith, nat_tests)

pub spanned : (s : List ℕ) (a b : ℕ) → (is_subset (span a b) s ≡ is_subset (span a b) s)
    × (IsTrue (is_subset (span a b) s) ↔ ((x : ℕ) → a ≤ x → x < b → IsTrue (has s x)))
spanned s a b = let each = is_subset-members (span a b) s in (refl, grind (arith, nat_tests, has-span))

-- `==` of lists that ascend
pub same_by_members : (s t : List ℕ) → IsAscending s → IsAscending t → IsTrue (same_sets s t) ↔ IsSameSet s t
same_by_members s t up_s up_t = let same = bytes_decides s t in let members = same_members s t up_s up_t in grind arith

-- the same members are the same list
pub same_elements : (a b : List Bool) → IsSameSet (elements a) (elements b) → elements a ≡ elements b
same_elements a b same = same_members (elements a) (elements b) (IsAscending-elements a) (IsAscending-elements b) same

-- a number that is taken and put back, or put in and taken
pub put_back : (s : List ℕ) (x : ℕ) → (put (without s x) x ≡ put (without s x) x) × (IsAscending s → IsTrue (has s x) → put (without s x) x ≡ s)
put_back s x = (
  refl,
  λ up is. same_members (put (without s x) x) s (AscendsFrom-put 0 (without s x) x (omega arith) (AscendsFrom-filter 0 _ s up)) up
      (λ y. let in_put = has-put (without s x) x y in let in_rest = has-without s x y in grind (arith, nat_tests, is)),
)

pub taken_again : (s : List ℕ) (x : ℕ) → (without (put s x) x ≡ without (put s x) x) × (IsAscending s → has s x ≡ false → without (put s x) x ≡ s)
taken_again s x = (
  refl,
  λ up is. same_members (without (put s x) x) s (AscendsFrom-filter 0 _ (put s x) (AscendsFrom-put 0 s x (omega arith) up)) up
      (λ y. let in_put = has-put s x y in let in_rest = has-without (put s x) x y in grind (arith, nat_tests, is)),
)

-- a set of two parts has as many members as they have

pub length_of_parts : (whole a b : List ℕ) → IsAscending whole → IsAscending a → IsAscending b
    → ((x : ℕ) → has a x ≡ (has whole x && not (has b x))) → ((x : ℕ) → IsTrue (has b x) → IsTrue (has whole x)) → length a + length b ≡ length whole
length_of_parts whole a b up up_a up_b others within =
    let first : a ≡ filter (λ x. not (has b x)) whole = same_members a (filter (λ x. not (has b x)) whole) up_a (AscendsFrom-filter 0 _ whole up)
    (λ x. let kept = has-filter (λ x. not (has b x)) whole x in let is = others x in grind (arith, nat_tests)) in
    let second : b ≡ filter (has b) whole = same_members b (filter (has b) whole) up_b (AscendsFrom-filter 0 _ whole up)
    (λ x. let kept = has-filter (has b) whole x in let is = within x in grind (arith, nat_tests)) in
    omega (arith, filtered_apart (has b) whole, ap length first, ap length second)

-- how many members merges have
pub count_difference : (s t : List ℕ) → (difference s t ≡ difference s t) × (length (difference s t) + length (intersection s t) ≡ length s)
count_difference s t = (refl, filtered_apart (has t) s)

pub count_union : (s t : List ℕ) → IsAscending s → IsAscending t → (union s t ≡ union s t) × (length (union s t) + length (intersection s t) ≡ length s + length t)
count_union s t up_s up_t =
    let in_union = has-union s t in
    let in_rest = has-difference t s in
    let whole = length_of_parts (union s t) s (difference t s) (IsAscending-put_all s t up_s) up_s (AscendsFrom-filter 0 _ t up_t)
    (λ x. grind (arith, in_union x, in_rest x)) (λ x is. grind (arith, is, in_union x, in_rest x)) in
    let same : intersection t s ≡ intersection s t = same_members _ _ (AscendsFrom-filter 0 (has s) t up_t) (AscendsFrom-filter 0 (has t) s up_s)
    (λ x. grind (arith, has-intersection t s x, has-intersection s t x)) in
    (refl, omega (arith, whole, (count_difference t s).1, ap length same))

-- what is below n and not in a set, with what is in it below n, is n
pub count_complement : (n : ℕ) (rest set : List Bool) → ((x : ℕ) → has (elements rest) x ≡ (ltb x n && not (has (elements set) x)))
    → length (elements rest) + length (those_below (elements set) n) ≡ n
count_complement n rest set is =
    let s = elements set in
    let up = IsAscending-elements set in
    omega (
      arith,
      length-span 0 n,
      length_of_parts (span 0 n) (elements rest) (those_below s n) (IsAscending-span 0 n) (IsAscending-elements rest)
          (AscendsFrom-filter 0 (λ y. ltb y n) s up)
          (λ x. let kept = has-filter (λ y. ltb y n) s x in let inside = has-span 0 n x in let rests = is x in grind (arith, nat_tests))
          (λ x. let kept = has-filter (λ y. ltb y n) s x in let inside = has-span 0 n x in grind (arith, nat_tests)),
    )

-- members that are all below a number are no more than it
few_from : (low n : ℕ) (s : List ℕ) → AscendsFrom low s → ((x : ℕ) → IsTrue (has s x) → x < n) → length s ≤ n - low
few_from low n [] up below = omega arith
few_from low n (x ∷ xs) up below =
    let rest = few_from (x + 1) n xs up.1 (λ y is. below y (grind (arith, nat_tests))) in
    let first = below x (has-first x xs) in
    let from = up.0 in
    omega (arith, rest, first, from)

pub few_below : (s : List ℕ) (n : ℕ) → IsAscending s → ((x : ℕ) → IsTrue (has s x) → x < n) → length s ≤ n
few_below s n up below = omega (arith, few_from 0 n s up below)

-- a set in another has no more members
pub fewer_within : (s t : List ℕ) → IsAscending s → IsAscending t → ((x : ℕ) → IsTrue (has s x) → IsTrue (has t x)) → length s ≤ length t
fewer_within s t up_s up_t within =
    let same : s ≡ filter (has s) t = same_members s (filter (has s) t) up_s (AscendsFrom-filter 0 _ t up_t)
    (λ x. let kept = has-filter (has s) t x in let is = within x in grind (arith, nat_tests)) in
    omega (arith, ap length same, length-filter-le (has s) t)

-- what two sets have in common is no more than either has
pub fewer_in_common : (s t : List ℕ) → (intersection s t ≡ intersection s t)
    × (length (intersection s t) ≤ length s) × (IsAscending s → IsAscending t → length (intersection s t) ≤ length t)
fewer_in_common s t = (
  refl,
  length-filter-le (has t) s,
  λ up_s up_t. fewer_within (intersection s t) t (AscendsFrom-filter 0 (has t) s up_s) up_t
      (λ x is. let both = has-intersection s t x in grind (arith, nat_tests, is)),
)

-- two sets have no number in common, or some
pub common_none : (s t : List ℕ) → (intersection s t ≡ []) ⊎ ((x : ℕ) × IsTrue (has s x) × IsTrue (has t x))
common_none s t = filter_none (has t) s

-- either way round it is one set
pub common_either_way : (s t : List ℕ) → (intersection s t ≡ intersection s t) × (IsAscending s → IsAscending t → intersection s t ≡ intersection t s)
common_either_way s t = (
  refl,
  λ up_s up_t. same_members _ _ (AscendsFrom-filter 0 (has t) s up_s) (AscendsFrom-filter 0 (has s) t up_t)
      (λ x. grind (arith, has-intersection s t x, has-intersection t s x)),
)

-- sets that are disjoint have nothing in common; of others some number is in both
pub shared : (s t : List ℕ) → (is_disjoint s t ≡ is_disjoint s t)
    × ((IsTrue (is_disjoint s t) × (intersection s t ≡ [])) ⊎ ((is_disjoint s t ≡ false) × ((x : ℕ) × IsTrue (has s x) × IsTrue (has t x))))
shared [] t = (refl, inl (grind arith, refl))
shared (y ∷ ys) t = (
  refl,
  elim (cases_Bool (has t y)) [
    | inl is ↦ inr (grind (arith, is), (y, has-first y ys, grind (arith, is)))
    | inr none ↦
        elim (shared ys t).1 [
          | inl rest ↦ inl (grind (arith, none, rest.0), grind (arith, none, rest.1))
          | inr some ↦ inr (grind (arith, some.0), (some.1.0, (let is = some.1.1 in grind (arith, nat_tests)), some.1.2))
        ]
  ],
)

-- how many members there are once a number is put in, or taken out
pub count_put : (s : List ℕ) (n : ℕ) → (put s n ≡ put s n) × (IsAscending s → length (put s n) ≡ length s + cond (has s n) 0 1)
count_put s n = (refl, length-put s n)

pub count_without : (s : List ℕ) (n : ℕ) → (without s n ≡ without s n) × (IsAscending s → length (without s n) + cond (has s n) 1 0 ≡ length s)
count_without s n = (refl, length-without s n)

-- the two parts of a set that is split at n
pub count_parted : (s : List ℕ) (n : ℕ) → (those_below s n ≡ those_below s n) × (length (those_below s n) + length (those_from s n) ≡ length s)
count_parted [] n = (refl, refl)
count_parted (x ∷ xs) n = (refl, let rest = (count_parted xs n).1 in grind (arith, nat_tests))

-- at the place n stands x: what is below it is the front, and what is from it on the rest
selected_from : (low : ℕ) (s : List ℕ) (n : ℕ) → AscendsFrom low s → (slice_get s n ≡ None)
    ⊎ ((x : ℕ) × (slice_get s n ≡ Some x) × (low ≤ x) × (those_below s x ≡ take n s) × (those_from s x ≡ drop n s))
selected_from low [] n up = inl refl
selected_from low (x ∷ xs) zero up =
    let none = below_none xs x in
    let all = from_all xs x in
    let below = λ (y : ℕ). has-below (x + 1) xs y up.1 in
    inr (x, refl, up.0, grind (arith, nat_tests), grind (arith, nat_tests))
selected_from low (x ∷ xs) (suc n) up =
    elim (selected_from (x + 1) xs n up.1) [
      | inl none ↦ inl none
      | inr some ↦ inr (some.0, some.1, (let from = up.0 in let at = some.2 in omega (arith, from, at)), (let at = some.2 in let same = some.3 in grind (arith, nat_tests)), (let at = some.2 in let same = some.4 in grind (arith, nat_tests)))
    ]

-- the member at a place parts the list there
pub selected : (s : List ℕ) (n : ℕ) → (slice_get s n ≡ slice_get s n) × (IsAscending s → (slice_get s n ≡ None)
    ⊎ ((x : ℕ) × (slice_get s n ≡ Some x) × (those_below s x ≡ take n s) × (those_from s x ≡ drop n s) × (length (those_from s x) ≡ length s - n)))
selected s n = (
  refl,
  λ up.
      elim (selected_from 0 s n up) [
        | inl none ↦ inl none
        | inr some ↦ inr (some.0, some.1, some.3, some.4, ap length some.4 ∙ length-drop n s)
      ],
)

-- a range that ends past all members
pub range_to_end : (s : List ℕ) (a b : ℕ) → (those_in_range s a b ≡ those_from s a) ⊎ ((b < bound_of s) × ((x : ℕ) × IsTrue (has s x) × (b ≤ x)))
range_to_end [] a b = inl refl
range_to_end (x ∷ xs) a b =
    elim (cases_Bool (nat_lt x b)) [
      | inl less ↦
          elim (range_to_end xs a b) [
            | inl rest ↦ inl (grind (arith, nat_tests, less, rest))
            | inr past ↦ inr (grind (arith, past.0), (past.1.0, (let is = past.1.1 in grind (arith, nat_tests)), past.1.2))
          ]
      | inr more ↦ inr (grind (arith, nat_tests, more), (x, has-first x xs, grind (arith, nat_tests, more)))
    ]

pub cut_to_end : (s : List ℕ) (a b : ℕ) → (difference s (span a b) ≡ those_below s a) ⊎ ((b < bound_of s) × ((x : ℕ) × IsTrue (has s x) × (b ≤ x)))
cut_to_end [] a b = inl refl
cut_to_end (x ∷ xs) a b =
    elim (cases_Bool (nat_lt x b)) [
      | inl less ↦
          elim (cut_to_end xs a b) [
            | inl rest ↦ inl (grind (arith, nat_tests, less, rest, has-span a b x))
            | inr past ↦ inr (grind (arith, past.0), (past.1.0, (let is = past.1.1 in grind (arith, nat_tests)), past.1.2))
          ]
      | inr more ↦ inr (grind (arith, nat_tests, more), (x, has-first x xs, grind (arith, nat_tests, more)))
    ]

-- the two parts of a list at a place: together they have its members, and no number is in both
has_parts : (n : ℕ) (s : List ℕ) (y : ℕ) → has s y ≡ (has (take n s) y || has (drop n s) y)
has_parts zero s y = refl
has_parts (suc n) [] y = refl
has_parts (suc n) (x ∷ xs) y = let rest = has_parts n xs y in grind (arith, nat_tests)

parts_apart : (low n : ℕ) (s : List ℕ) (y : ℕ) → AscendsFrom low s → (has (take n s) y && has (drop n s) y) ≡ false
parts_apart low zero s y up = refl
parts_apart low (suc n) [] y up = refl
parts_apart low (suc n) (x ∷ xs) y up =
    let rest = parts_apart (x + 1) n xs y up.1 in let whole = has_parts n xs y in let below = has-below (x + 1) xs y up.1 in grind (arith, nat_tests)

AscendsFrom-drop : (low n : ℕ) (s : List ℕ) → AscendsFrom low s → AscendsFrom low (drop n s)
AscendsFrom-drop low zero s up = up
AscendsFrom-drop low (suc n) [] up = tt
AscendsFrom-drop low (suc n) (x ∷ xs) up = AscendsFrom-drop low n xs (AscendsFrom-lower (x + 1) low xs (let from = up.0 in omega (arith, from)) up.1)

-- a set without a front of its list is the rest of it
without_take : (s : List ℕ) (n : ℕ) → IsAscending s → difference s (take n s) ≡ drop n s
without_take s n up =
    same_members _ (drop n s) (AscendsFrom-filter 0 _ s up) (AscendsFrom-drop 0 n s up)
    (λ y. let kept = has-difference s (take n s) y in let whole = has_parts n s y in let apart = parts_apart 0 n s y up in grind (arith, nat_tests))

pub without_front : (s t : List ℕ) → (difference s t ≡ difference s t) × (IsAscending s → (n : ℕ) → t ≡ take n s → difference s t ≡ drop n s)
without_front s t = (refl, λ up n is. ap (λ l. difference s l) is ∙ without_take s n up)

-- the front that was copied to the front of a buffer
pub front_again : (n : ℕ) (s rest : List ℕ) → (take n (take n s ++ rest) ≡ take n (take n s ++ rest)) × (n ≤ length s → take n (take n s ++ rest) ≡ take n s)
front_again n s rest = (
  refl,
  λ fits.
      let long = length-take-le n s fits in
      take-append-le n (take n s) rest (omega (arith, long)) ∙ take-take n n s (omega arith),
)

-- where a front is as long as a buffer, or as the list where that is shorter
pub drop_least : (m : ℕ) (s : List ℕ) → drop (min m (length s)) s ≡ drop m s
drop_least m s =
    elim (cases_Bool (nat_le m (length s))) [
      | inl fits ↦ ap (λ k. drop k s) (grind (arith, nat_tests, fits))
      | inr past ↦ ap (λ k. drop k s) (let is : min m (length s) ≡ length s = grind (arith, nat_tests, past) in is) ∙ drop-length s ∙ sym (drop_of_length-le s (grind (arith, nat_tests, past)))
    ]

-- without the first of what is left there is one more gone from the front
pub drop_next : {X : Type 0} (n : ℕ) (s t : List X) (x : X) → drop n s ≡ x ∷ t → drop (n + 1) s ≡ t
drop_next zero (y ∷ ys) t x is = grind (arith, is)
drop_next zero [] t x is = grind (arith, is)
drop_next (suc n) [] t x is = grind (arith, is)
drop_next (suc n) (y ∷ ys) t x is = let more : suc n + 1 ≡ suc (n + 1) = omega arith in ap (λ k. drop k (y ∷ ys)) more ∙ drop_next n ys t x is

-- without the last of what is left there is one more gone from the back
take_less : {X : Type 0} (n : ℕ) (s t : List X) (x : X) → n ≤ length s → take n s ≡ t ++ x ∷ [] → take (n - 1) s ≡ t
take_less n s t x fits is =
    let long : length t + 1 ≡ n = (let whole = ap length is in omega (arith, whole, length-take n s, length-append t (x ∷ []), fits)) in
    let less : n - 1 ≡ length t = omega (arith, long) in
    let within : length t ≤ n = omega (arith, long) in
    ap (λ k. take k s) less ∙ sym (take-take (length t) n s within) ∙ ap (take (length t)) is ∙ take-append_seam t (x ∷ [])

no_end : {X : Type 0} (t : List X) (x : X) → [] ≡ t ++ x ∷ [] → ⊥
no_end [] x is = cc
no_end (y ∷ ys) x is = cc

nothing : {X : Type 0} (n : ℕ) (t : List X) (x : X) → drop n [] ≡ t ++ x ∷ [] → ⊥
nothing zero t x is = no_end t x is
nothing (suc n) t x is = no_end t x is

pub take_before : {X : Type 0} (n m : ℕ) (s t : List X) (x : X) → m ≤ length s → drop n (take m s) ≡ t ++ x ∷ [] → drop n (take (m - 1) s) ≡ t
take_before zero m s t x fits is = take_less m s t x fits is
take_before (suc n) zero s t x fits is = absurd (no_end t x is)
take_before (suc n) (suc m) [] t x fits is = absurd (omega (arith, fits))
take_before (suc n) (suc zero) (y ∷ ys) t x fits is = absurd (nothing n t x is)
take_before (suc n) (suc (suc m)) (y ∷ ys) t x fits is =
    let less : suc (suc m) - 1 ≡ suc m = omega arith in
    let fewer : suc m - 1 ≡ m = omega arith in
    ap (λ k. drop (suc n) (take k (y ∷ ys))) less ∙ ap (λ k. drop n (take k ys)) (sym fewer) ∙ take_before n (suc m) ys t x (omega (arith, fits)) is

-- the same for `grind`
pub without_first : {X : Type 0} (n : ℕ) (s : List X) → (drop n s ≡ drop n s) × ((x : X) (t : List X) → drop n s ≡ x ∷ t → drop (n + 1) s ≡ t)
without_first n s = (refl, λ x t is. drop_next n s t x is)

pub without_last : {X : Type 0} (n m : ℕ) (s : List X) → (drop n (take m s) ≡ drop n (take m s))
    × ((x : X) (t : List X) → m ≤ length s → drop n (take m s) ≡ t ++ x ∷ [] → drop n (take (m - 1) s) ≡ t)
without_last n m s = (refl, λ x t fits is. take_before n m s t x fits is)

-- a stretch of members is no longer than the first run, or is past it
pub stretch : (s t : List ℕ) (run : Range ℕ) (a n : ℕ) → IsFirstRun s run → KeepsFrom s t run.end
    → ((x : ℕ) → a ≤ x → x < a + n → has s x ≡ true)
    → (n ≤ run.end - run.start) ⊎ ((x : ℕ) → a ≤ x → x < a + n → has t x ≡ true)
stretch s t run a n first rest all =
    elim (cases_Bool (nat_le n (run.end - run.start))) [
      | inl fits ↦ inl (grind (arith, nat_tests, fits))
      | inr longer ↦ inr (λ x from to.
          let here = all x from to in
          let start = all a (omega arith) (omega (arith, from, to)) in
          let end = all run.end in
          let before = first.before a in
          let past = first.past in
          grind (arith, nat_tests, longer, from, to, here, start, end, before, past, rest x))
    ]

-- steps of k from a multiple: there is no other before the next one, which is one
between_multiples : (m k x : ℕ) → m % k ≡ 0 → m ≤ x → x < m + k → x % k ≡ x - m
between_multiples m k x at from below =
    let split : x ≡ m / k * k + (x - m) = omega (arith, div-add-mod' m k) in
    ap (λ n. n % k) split ∙ mod-mul-add (m / k) k (x - m) (omega arith)

pub multiples : (m k : ℕ) → (m % k ≡ m % k)
    × ((x : ℕ) → m % k ≡ 0 → m ≤ x → x < m + k → x % k ≡ x - m) × ((x : ℕ) → x ≡ m + k → x % k ≡ m % k)
multiples m k = (refl, between_multiples m k, λ x is. ap (λ n. n % k) is ∙ add-mod_right m k)

-- what loops over a set use, for `grind`
pub ruleset set_steps = (nat_tests, has-filter, below_none, below_all, from_none, from_all, length-filter-le, take-first, append_assoc, append-nil)

-- all that callers use, for `grind`: a crate names it once, at its root
pub ruleset calls = (set_steps, members_of_merged_sets, has-reverse, at_place, has_place, in_order, IsAscending-elements, ascends_pushed, has-put, put_back, taken_again, list_any-append, take_at_read, sum_by-append)

-- for a function whose clause says that a test which is no bound keeps none, or all
pub ruleset kept_by_tests = (calls, filter_none, filter_all)

-- for a function that asks of ranges by `span` and `those_in_range`
pub ruleset ranges = (calls, has-span, counted_in_range, first_in_range, from_zero, spanned, walk_ascends, selected, range_to_end, cut_to_end, without_front, front_again, drop_least)

-- for a clause that counts what merges have
pub ruleset counts = (calls, count_difference, count_union, fewer_in_common, count_parted, common_none, common_either_way, shared, count_put, count_without)

-- for a loop that takes members from either end, and whose clause cuts the list by `take` and `drop`
pub ruleset both_ends = (calls, without_first, without_last)

-- for a page that goes on where another ended
pub ruleset pages = (calls, ranked)

-- for a loop that goes on by steps of a number: a function that needs it names it
pub ruleset steps = (nat_tests, multiples)

-- the same for loops over a row of sets whose contract says `All` or `Any`, and whose invariant `list_all` or `list_any`:
-- with these two beside the places a loop over one set may stay open
pub ruleset rows = (set_steps, all_by_places, any_by_places)
