-- How many numbers a set has after a call, which items were new, and what a first member is.
use Rattle.std.proofs.{Common.{◌≡◌, ℕ, ◌+◌, ◌≤◌, not, ◌&&◌, cond, List, [], ◌∷◌, ◌++◌, length, refl, arith, IsTrue}, lemmas.Bool.Decides.nat_tests}
use Rattle.set_algebra.specs.Sets.{AscendsFrom, IsAscending, has, put, without, put_all, those_new}
use Rattle.set_algebra.proofs.SetLemmas.{AscendsFrom-lower, AscendsFrom-put, has-below, has-put, without_absent, length-elements-le}

-- ---- how many there are

length-put_from : (low : ℕ) (s : List ℕ) (n : ℕ) → AscendsFrom low s → length (put s n) ≡ length s + cond (has s n) 0 1
length-put_from low [] n up = refl
length-put_from low (x ∷ xs) n up = let rest = length-put_from (x + 1) xs n up.1 in let below = has-below (x + 1) xs n up.1 in grind (arith, nat_tests)

pub length-put : (s : List ℕ) (n : ℕ) → IsAscending s → length (put s n) ≡ length s + cond (has s n) 0 1
length-put s n up = length-put_from 0 s n up

length-without_from : (low : ℕ) (s : List ℕ) (n : ℕ) → AscendsFrom low s → length (without s n) + cond (has s n) 1 0 ≡ length s
length-without_from low [] n up = refl
length-without_from low (x ∷ xs) n up = let rest = length-without_from (x + 1) xs n up.1 in let below = has-below (x + 1) xs n up.1 in grind (arith, nat_tests)

pub length-without : (s : List ℕ) (n : ℕ) → IsAscending s → length (without s n) + cond (has s n) 1 0 ≡ length s
length-without s n up = length-without_from 0 s n up

-- ---- items that are put in one by one

pub put_all-append : (s xs ys : List ℕ) → put_all s (xs ++ ys) ≡ put_all (put_all s xs) ys
put_all-append s [] ys = refl
put_all-append s (x ∷ xs) ys = put_all-append (put s x) xs ys

pub length-put_all : (s items : List ℕ) → IsAscending s → length (put_all s items) ≡ length s + length (those_new s items)
length-put_all s [] up = omega arith
length-put_all s (n ∷ ns) up =
    let rest = length-put_all (put s n) ns (AscendsFrom-put 0 s n (omega arith) up) in
    let here = length-put s n up in
    grind arith

pub length-those_new : (s items : List ℕ) → length (those_new s items) ≤ length items
length-those_new s [] = omega arith
length-those_new s (n ∷ ns) = let rest = length-those_new (put s n) ns in grind arith

pub those_new-append : (s xs ys : List ℕ) → those_new s (xs ++ ys) ≡ those_new s xs ++ those_new (put_all s xs) ys
those_new-append s [] ys = refl
those_new-append s (x ∷ xs) ys = let rest = those_new-append (put s x) xs ys in grind arith

pub has-those_new : (s items : List ℕ) (m : ℕ) → has (those_new s items) m ≡ (not (has s m) && has items m)
has-those_new s [] m = grind arith
has-those_new s (n ∷ ns) m = let rest = has-those_new (put s n) ns m in let here = has-put s n m in grind (arith, nat_tests)

-- ---- a first member

-- it is the least
pub least-first : (x : ℕ) (xs : List ℕ) (n : ℕ) → IsAscending (x ∷ xs) → IsTrue (has (x ∷ xs) n) → x ≤ n
least-first x xs n up is = let below = has-below x (x ∷ xs) n (omega arith, up.1) in grind arith

-- and without it the others are left
pub without-first : (x : ℕ) (xs : List ℕ) → IsAscending (x ∷ xs) → without (x ∷ xs) x ≡ xs
without-first x xs up = let rest = without_absent xs x (AscendsFrom-lower (x + 1) 0 xs (omega arith) up.1) (has-below (x + 1) xs x up.1 (omega arith)) in grind (arith, nat_tests)

-- the laws of `src/laws.rt` by these
pub ruleset sizes_of_sets = (length-put, length-without, length-put_all, has-those_new, length-those_new, length-elements-le)

pub ruleset items_in_two_parts = (put_all-append, those_new-append)
