-- A set in parts: those below a number and the others, or those below a range, in it and past it.
use Rattle.std.proofs.Common.{◌≡◌, ℕ, ◌-◌, ◌<◌, ◌≤◌, max, min, false, ltb, if◌then◌else◌, nat_lt, nat_le, List, Bool, [], ◌++◌, length, drop, eqb, replicate, ap₂, subst, ◌∙◌, arith, IsTrue}
use Rattle.std.proofs.{lemmas.Bool.Decides.nat_tests}
use Rattle.std.proofs.lemmas.List.{get_or-drop, get_or-replicate, get_or_append_left, get_or-append_right, get_or_past, length-replicate, Folds.list_any-append}
use Rattle.bit_blocks.specs.Ranges.{in_range}
use Rattle.set_algebra.specs.{Ranges.those_in_range, Sets.{AscendsFrom, IsAscending, has, elements, those_below, those_from, union}}
use Rattle.set_algebra.proofs.{RangeLemmas.{AscendsFrom-joined, AscendsFrom-those_from}, SetLemmas.{AscendsFrom-filter, IsAscending-elements, elements-kept, has-filter, same_members}}
use Rattle.set_algebra.proofs.SetLaws.{IsAscending-put_all, has-put_all, same_values}

pub elements-tail : (bs : List Bool) (n : ℕ) → elements (replicate n false ++ drop n bs) ≡ those_from (elements bs) n
elements-tail bs n =
    elements-kept (λ k. nat_le n k) bs (replicate n false ++ drop n bs)
    (λ k.
    let front = get_or_append_left (replicate n false) (drop n bs) false k in
    let rest = get_or-append_right (replicate n false) (drop n bs) n k false (length-replicate n false) in
    let before = get_or-replicate n k false false in
    let from = get_or-drop n bs (k - n) false in
    grind (arith, nat_tests, length-replicate n false))

-- a number below which all of the set is, and at or above which none is
pub all_below : (bs : List Bool) (n : ℕ) → length bs ≤ n → elements bs ≡ those_below (elements bs) n
all_below bs n past = elements-kept (λ k. ltb k n) bs bs (λ k. let out = get_or_past bs k false in grind (arith, nat_tests))

pub none_from : (bs : List Bool) (n : ℕ) → length bs ≤ n → [] ≡ those_from (elements bs) n
none_from bs n past = elements-kept (λ k. nat_le n k) bs [] (λ k. let out = get_or_past bs k false in grind (arith, nat_tests))

-- all are at or above 0
pub none_below : (bs : List Bool) → [] ≡ those_below (elements bs) 0
none_below bs = elements-kept (λ k. ltb k 0) bs [] (λ k. grind (arith, nat_tests))

pub all_from : (bs : List Bool) → elements bs ≡ those_from (elements bs) 0
all_from bs = elements-kept (λ k. nat_le 0 k) bs bs (λ k. grind (arith, nat_tests))

-- ---- the two parts

pub joined : (s : List ℕ) (at : ℕ) → IsAscending s → union (those_below s at) (those_from s at) ≡ s
joined s at up =
    same_members _ s (IsAscending-put_all (those_below s at) (those_from s at) (AscendsFrom-filter 0 _ s up)) up
    (λ k. let both = has-put_all (those_below s at) (those_from s at) k in let low = has-filter (λ n. ltb n at) s k in let high = has-filter (λ n. nat_le at n) s k in grind (arith, nat_tests))

pub apart : (s : List ℕ) (at m n : ℕ) → IsTrue (has (those_below s at) m) → IsTrue (has (those_from s at) n) → m < n
apart s at m n low high = let below = has-filter (λ x. ltb x at) s m in let above = has-filter (λ x. nat_le at x) s n in grind (arith, nat_tests)

-- the list is as it was once what was returned is put in again
pub rejoined : (a b c d : List Bool) (at : ℕ) → elements b ≡ those_below (elements a) at → length b ≡ min (length a) at → elements c ≡ those_from (elements a) at
    → length c ≡ (if nat_lt at (length a) then length a else 0) → elements d ≡ union (elements b) (elements c) → length d ≡ max (length b) (length c) → d ≡ a
rejoined a b c d at first first_length second second_length both both_length =
    same_values d a (both ∙ ap₂ union first second ∙ joined (elements a) at (IsAscending-elements a)) (grind (arith, nat_tests))

-- ---- three parts

pub both_tests : (xs : List ℕ) (a b : ℕ) → IsAscending xs → those_below (those_from xs a) b ≡ those_in_range xs a b
both_tests xs a b up =
    same_members _ _ (AscendsFrom-filter 0 (λ n. nat_lt n b) _ (AscendsFrom-filter 0 (λ n. nat_le a n) xs up)) (AscendsFrom-filter 0 (in_range a b) xs up)
    (λ n. grind (arith, nat_tests, has-filter (λ m. nat_lt m b) (those_from xs a) n, has-filter (λ m. nat_le a m) xs n, has-filter (in_range a b) xs n))

-- those below a range, those in it and those past it
pub parts_of_sets : (s : List ℕ) (a b : ℕ) → IsAscending s → a ≤ b → those_below s a ++ (those_in_range s a b ++ those_from s b) ≡ s
parts_of_sets s a b up to =
    let low = those_below s a in
    let mid = those_in_range s a b in
    let high = those_from s b in
    let has_low = λ (n : ℕ). has-filter (λ x. nat_lt x a) s n in
    let has_mid = λ (n : ℕ). has-filter (in_range a b) s n in
    let has_high = λ (n : ℕ). has-filter (λ x. nat_le b x) s n in
    let up_mid = subst (AscendsFrom a) (both_tests s a b up) (AscendsFrom-filter a (λ x. nat_lt x b) (those_from s a) (AscendsFrom-those_from 0 a s up)) in
    let up_rest = AscendsFrom-joined a b mid high to up_mid (λ n is. grind (arith, nat_tests, has_mid n, is)) (AscendsFrom-those_from 0 b s up) in
    same_members _ s (AscendsFrom-joined 0 a low (mid ++ high) (omega arith) (AscendsFrom-filter 0 _ s up) (λ n is. grind (arith, nat_tests, has_low n, is)) up_rest) up
    (λ n. grind (arith, nat_tests, to, has_low n, has_mid n, has_high n, list_any-append (λ m. eqb m n) low (mid ++ high), list_any-append (λ m. eqb m n) mid high))
