-- Sets of whole numbers, each as the list of its members in ascending order.
use Rattle.std.specs.{Prelude.{ℕ, ◌+◌, ◌≤◌, max, Bool, not, ◌==◌, nat_lt, nat_le, if◌then◌else◌, List, [], ◌∷◌, filter}, List.{fold, list_all, list_any}}
use Rattle.bit_blocks.specs.declared.block.merge.Merge.{Merge, TheVariants.{Union, Intersection, Difference, Symmetric}}

-- the numbers strictly ascend, and the first is at least `low`
abbrev pub AscendsFrom : ℕ → List ℕ → Type 0
AscendsFrom low [] = Unit {0}
AscendsFrom low (x ∷ xs) = (low ≤ x) × AscendsFrom (x + 1) xs

-- the numbers strictly ascend: the list is the one spelling of a set
abbrev pub IsAscending : List ℕ → Type 0
IsAscending xs = AscendsFrom 0 xs

-- whether n is in the set: what `contains` of a slice says too
abbrev pub has : List ℕ → ℕ → Bool
has s n = list_any (λ m. m == n) s

-- the set with n
abbrev pub put : List ℕ → ℕ → List ℕ
put [] n = n ∷ []
put (x ∷ xs) n = if nat_lt n x then n ∷ x ∷ xs else (if x == n then x ∷ xs else x ∷ put xs n)

-- the set without n
abbrev pub without : List ℕ → ℕ → List ℕ
without xs n = filter (λ x. not (x == n)) xs

-- the indexes from `index` on at which a list of truth values is true
abbrev pub elements_from : ℕ → List Bool → List ℕ
elements_from index [] = []
elements_from index (b ∷ bs) = if b then index ∷ elements_from (index + 1) bs else elements_from (index + 1) bs

-- the set that a list of truth values keeps: the indexes at which it is true
abbrev pub elements : List Bool → List ℕ
elements bs = elements_from 0 bs

-- those of the set that are below n
abbrev pub those_below : List ℕ → ℕ → List ℕ
those_below xs n = filter (λ x. nat_lt x n) xs

-- the others of the set: those that are n or above
abbrev pub those_from : List ℕ → ℕ → List ℕ
those_from xs n = filter (λ x. nat_le n x) xs

-- the set with each of some items, put in one by one
abbrev pub put_all : List ℕ → List ℕ → List ℕ
put_all xs [] = xs
put_all xs (n ∷ ns) = put_all (put xs n) ns

-- those of some items that are new where they are put in one by one
abbrev pub those_new : List ℕ → List ℕ → List ℕ
those_new xs [] = []
those_new xs (n ∷ ns) = if has xs n then those_new (put xs n) ns else n ∷ those_new (put xs n) ns

-- one above the greatest of some numbers, 0 where there are none
abbrev pub bound_of : List ℕ → ℕ
bound_of [] = 0
bound_of (n ∷ ns) = max (n + 1) (bound_of ns)

-- what is in either set
abbrev pub union : List ℕ → List ℕ → List ℕ
union s t = put_all s t

-- what is in both sets
abbrev pub intersection : List ℕ → List ℕ → List ℕ
intersection s t = filter (λ n. has t n) s

-- what is in the first set alone
abbrev pub difference : List ℕ → List ℕ → List ℕ
difference s t = filter (λ n. not (has t n)) s

-- what is in just one of two sets
abbrev pub symmetric_difference : List ℕ → List ℕ → List ℕ
symmetric_difference s t = union (difference s t) (difference t s)

-- what two sets become
abbrev pub merge_of_sets : Merge → List ℕ → List ℕ → List ℕ
merge_of_sets Union s t = union s t
merge_of_sets Intersection s t = intersection s t
merge_of_sets Difference s t = difference s t
merge_of_sets Symmetric s t = symmetric_difference s t

-- what is in some of many sets
abbrev pub union_all : List (List ℕ) → List ℕ
union_all ss = fold union [] ss

-- what is in each of many sets, and nothing where there are none
abbrev pub intersection_all : List (List ℕ) → List ℕ
intersection_all [] = []
intersection_all (s ∷ ss) = fold intersection s ss

-- whether each number of the first set is in the second
abbrev pub is_subset : List ℕ → List ℕ → Bool
is_subset s t = list_all (λ n. has t n) s

-- whether no number is in both sets
abbrev pub is_disjoint : List ℕ → List ℕ → Bool
is_disjoint s t = list_all (λ n. not (has t n)) s
