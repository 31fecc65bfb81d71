-- Two sets made one: the members of what comes out, its order, the same as finite sets of std, and two lists of
-- truth values merged value by value.
use Rattle.std.{proofs.{Common.{◌≡◌, ℕ, Bool, false, not, ◌-◌, ◌||◌, ◌&&◌, ◌++◌, List, length, length-append, replicate, max, ap, ◌∙◌, arith}, lemmas.List.length-replicate}, specs.Cmp.nat_cmp_total}
use Rattle.std.specs.FinSet as set
use Rattle.bit_blocks.{specs.{Merges.{merge_of_values, merge_of}, declared.block.merge.Merge.Merge}, proofs.MergeLemmas.{get_or-merged, length-merged}}
use Rattle.set_algebra.specs.Sets.{IsAscending, has, elements, union, intersection, difference, symmetric_difference, merge_of_sets}
use Rattle.set_algebra.proofs.SetLemmas.{AscendsFrom-filter, has-elements, has-filter, IsAscending-elements}
use Rattle.set_algebra.proofs.{SetLemmas.{elements-by_members, elements-padded, AscendsFrom-put}, SetLaws.{has-put_all, IsAscending-put_all, contains-has, finite, finite-put_all, same_finite}}

pub has-union : (s t : List ℕ) (n : ℕ) → has (union s t) n ≡ (has s n || has t n)
has-union s t n = let all = has-put_all s t n in grind arith

pub has-intersection : (s t : List ℕ) (n : ℕ) → has (intersection s t) n ≡ (has s n && has t n)
has-intersection s t n = let kept = has-filter (λ m. has t m) s n in grind arith

pub has-difference : (s t : List ℕ) (n : ℕ) → has (difference s t) n ≡ (has s n && not (has t n))
has-difference s t n = let kept = has-filter (λ m. not (has t m)) s n in grind arith

pub has-symmetric : (s t : List ℕ) (n : ℕ) → has (symmetric_difference s t) n ≡ ((has s n && not (has t n)) || (not (has s n) && has t n))
has-symmetric s t n = let both = has-union (difference s t) (difference t s) n in let first = has-difference s t n in let second = has-difference t s n in grind arith

-- a number is a member of what two sets become as each of them has it or not
pub has-merge_of_sets : (merge : Merge) (s t : List ℕ) (n : ℕ) → has (merge_of_sets merge s t) n ≡ merge_of_values merge (has s n) (has t n)
has-merge_of_sets merge s t n = grind (arith, has-union s t n, has-intersection s t n, has-difference s t n, has-symmetric s t n)

pub IsAscending-merge_of_sets : (merge : Merge) (s t : List ℕ) → IsAscending s → IsAscending (merge_of_sets merge s t)
IsAscending-merge_of_sets merge s t up =
    let apart = AscendsFrom-filter 0 (λ n. not (has t n)) s up in
    grind (arith, IsAscending-put_all s t up, AscendsFrom-filter 0 (λ n. has t n) s up, IsAscending-put_all (difference s t) (difference t s) apart)

-- the set that a merged list keeps is what the sets of the two become
pub elements-merged : (merge : Merge) (xs ys : List Bool) → elements (merge_of merge xs ys) ≡ merge_of_sets merge (elements xs) (elements ys)
elements-merged merge xs ys =
    elements-by_members (merge_of merge xs ys) (merge_of_sets merge (elements xs) (elements ys))
    (IsAscending-merge_of_sets merge (elements xs) (elements ys) (IsAscending-elements xs))
    (λ k. let value = get_or-merged merge xs ys k in let member = has-merge_of_sets merge (elements xs) (elements ys) k in cc (has-elements xs k, has-elements ys k))

-- the set that is kept where the first list was lengthened with false
pub elements-lengthened : (merge : Merge) (xs ys : List Bool) (n : ℕ) → elements (merge_of merge (xs ++ replicate n false) ys) ≡ merge_of_sets merge (elements xs) (elements ys)
elements-lengthened merge xs ys n = elements-merged merge (xs ++ replicate n false) ys ∙ ap (λ s. merge_of_sets merge s (elements ys)) (elements-padded xs n)

pub length-lengthened : (merge : Merge) (xs ys : List Bool) → length (merge_of merge (xs ++ replicate (length ys - length xs) false) ys) ≡ max (length xs) (length ys)
length-lengthened merge xs ys =
    omega (arith, length-merged merge (xs ++ replicate (length ys - length xs) false) ys, length-append xs (replicate (length ys - length xs) false), length-replicate (length ys - length xs) false)

pub finite-intersection : (s t : List ℕ) → finite (intersection s t) ≡ set.intersection (finite s) (finite t)
finite-intersection s t =
    same_finite (intersection s t) _ (λ n. let ours = has-intersection s t n in let theirs = set.contains-intersection nat_cmp_total (finite s) (finite t) n in cc (contains-has s n, contains-has t n))

pub finite-difference : (s t : List ℕ) → finite (difference s t) ≡ set.difference (finite s) (finite t)
finite-difference s t =
    same_finite (difference s t) _ (λ n. let ours = has-difference s t n in let theirs = set.contains-difference nat_cmp_total (finite s) (finite t) n in cc (contains-has s n, contains-has t n))

-- what is in just one of two sets: what the first has alone, and what the second has alone
pub finite-symmetric : (s t : List ℕ) → finite (symmetric_difference s t) ≡ set.union (set.difference (finite s) (finite t)) (set.difference (finite t) (finite s))
finite-symmetric s t = let both = finite-put_all (difference s t) (difference t s) in cc (finite-difference s t, finite-difference t s)

-- the laws of `src/laws.rt` by these
pub ruleset sets_ascend = (AscendsFrom-put, AscendsFrom-filter, IsAscending-put_all, IsAscending-merge_of_sets, IsAscending-elements)

pub ruleset members_of_merged_sets = (has-union, has-intersection, has-difference, has-symmetric, has-merge_of_sets)

pub ruleset merged_sets_are_finite_sets = (finite-put_all, finite-intersection, finite-difference, finite-symmetric)

pub ruleset merged_lists_keep_merged_sets = (elements-merged, length-merged)
