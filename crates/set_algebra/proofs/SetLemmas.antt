-- What the operations of `specs/Sets.antt` do to the members, that they keep the order, and that the members fix a set.
use Rattle.std.proofs.Common.{◌≡◌, ℕ, ◌+◌, ◌-◌, ◌<◌, ◌≤◌, Bool, true, false, not, ◌||◌, ◌&&◌, cond, eqb, List, [], ◌∷◌, length, get_or, filter, ◌++◌, suc, zero, count_by, set, replicate, refl, sym}
use Rattle.std.proofs.Common.{ap, ◌∙◌, arith}
use Rattle.std.proofs.lemmas.Bool.{eqb-true, Decides.nat_tests}
use Rattle.std.proofs.lemmas.List.{get_or-set_same, get_or-set_other, get_or_append_left, get_or-append_right, get_or-replicate, get_or_past, length-replicate, Recursion.is_count_by}
use Rattle.std.proofs.lemmas.{List.Sums.count_by-le-length, Map.Views.any-filter_same}
use Rattle.set_algebra.specs.Sets.{AscendsFrom, IsAscending, has, put, without, elements_from, elements}

-- what ascends from a number ascends from each smaller one
pub AscendsFrom-lower : (low lower : ℕ) (xs : List ℕ) → lower ≤ low → AscendsFrom low xs → AscendsFrom lower xs
AscendsFrom-lower low lower [] le h = tt
AscendsFrom-lower low lower (x ∷ xs) le h = (omega (arith, le, h.0), h.1)

-- the last is no smaller
pub AscendsFrom-reach : (low : ℕ) (xs : List ℕ) (x : ℕ) → AscendsFrom low (xs ++ x ∷ []) → low ≤ x
AscendsFrom-reach low [] x up = up.0
AscendsFrom-reach low (y ∷ ys) x up = omega (arith, up.0, AscendsFrom-reach (y + 1) ys x up.1)

-- without it they ascend
pub AscendsFrom-init : (low : ℕ) (xs : List ℕ) (x : ℕ) → AscendsFrom low (xs ++ x ∷ []) → AscendsFrom low xs
AscendsFrom-init low [] x up = tt
AscendsFrom-init low (y ∷ ys) x up = (up.0, AscendsFrom-init (y + 1) ys x up.1)

-- no number below the first is a member
pub has-below : (low : ℕ) (xs : List ℕ) (n : ℕ) → AscendsFrom low xs → n < low → has xs n ≡ false
has-below low [] n h lt = refl
has-below low (x ∷ xs) n h lt = let rest = has-below (x + 1) xs n h.1 in grind (arith, nat_tests)

-- a first member is a member
pub has-first : (x : ℕ) (xs : List ℕ) → has (x ∷ xs) x ≡ true
has-first x xs = grind (arith, nat_tests)

-- ascending lists with the same members are one list
pub same_members_from : (low : ℕ) (xs ys : List ℕ) → AscendsFrom low xs → AscendsFrom low ys → ((n : ℕ) → has xs n ≡ has ys n) → xs ≡ ys
same_members_from low [] [] hx hy same = refl
same_members_from low [] (y ∷ ys) hx hy same = let here = same y in grind (arith, nat_tests)
same_members_from low (x ∷ xs) [] hx hy same = let here = same x in grind (arith, nat_tests)
same_members_from low (x ∷ xs) (y ∷ ys) hx hy same =
    let below_x = λ (n : ℕ). has-below (x + 1) xs n hx.1 in
    let below_y = λ (n : ℕ). has-below (y + 1) ys n hy.1 in
    let heads : x ≡ y = (let at_x = same x in let at_y = same y in let none_x = below_x y in let none_y = below_y x in grind (arith, nat_tests)) in
    let tails = same_members_from (x + 1) xs ys hx.1 (rw heads hy.1) (λ n. let at_n = same n in let none_x = below_x n in let none_y = below_y n in grind (arith, nat_tests)) in
    cc

pub same_members : (xs ys : List ℕ) → IsAscending xs → IsAscending ys → ((n : ℕ) → has xs n ≡ has ys n) → xs ≡ ys
same_members xs ys = same_members_from 0 xs ys

pub has-put : (xs : List ℕ) (n m : ℕ) → has (put xs n) m ≡ (eqb n m || has xs m)
has-put [] n m = refl
has-put (x ∷ xs) n m = let rest = has-put xs n m in grind (arith, nat_tests)

pub AscendsFrom-put : (low : ℕ) (xs : List ℕ) (n : ℕ) → low ≤ n → AscendsFrom low xs → AscendsFrom low (put xs n)
AscendsFrom-put low [] n le h = (le, tt)
AscendsFrom-put low (x ∷ xs) n le h = let rest = AscendsFrom-put (x + 1) xs n in grind (arith, nat_tests)

-- which members a test keeps
pub has-filter : (p : ℕ → Bool) (xs : List ℕ) (m : ℕ) → has (filter p xs) m ≡ (p m && has xs m)
has-filter p xs m = any-filter_same (λ x. eqb x m) p (p m) (λ x e. ap p (eqb-true x m e)) xs

pub AscendsFrom-filter : (low : ℕ) (p : ℕ → Bool) (xs : List ℕ) → AscendsFrom low xs → AscendsFrom low (filter p xs)
AscendsFrom-filter low p [] h = tt
AscendsFrom-filter low p (x ∷ xs) h =
    let rest = AscendsFrom-filter (x + 1) p xs h.1 in
    let lower = AscendsFrom-lower (x + 1) low (filter p xs) in
    grind (arith, nat_tests)

pub has-without : (xs : List ℕ) (n m : ℕ) → has (without xs n) m ≡ (not (eqb n m) && has xs m)
has-without xs n m = let kept = has-filter (λ x. not (eqb x n)) xs m in grind (arith, nat_tests)

pub AscendsFrom-elements_from : (index : ℕ) (bs : List Bool) → AscendsFrom index (elements_from index bs)
AscendsFrom-elements_from index [] = tt
AscendsFrom-elements_from index (b ∷ bs) =
    let rest = AscendsFrom-elements_from (index + 1) bs in
    let lower = AscendsFrom-lower (index + 1) index (elements_from (index + 1) bs) in
    grind (arith, nat_tests)

-- a number is an element exactly where the list is true at it
pub has-elements_from : (index : ℕ) (bs : List Bool) (k : ℕ) → has (elements_from index bs) (index + k) ≡ get_or bs k false
has-elements_from index [] k = refl
has-elements_from index (b ∷ bs) zero =
    let below = has-below (index + 1) (elements_from (index + 1) bs) (index + 0) (AscendsFrom-elements_from (index + 1) bs) in
    grind (arith, nat_tests)
has-elements_from index (b ∷ bs) (suc k) =
    let along : index + 1 + k ≡ index + suc k = omega arith in
    let rest = rw along at (has-elements_from (index + 1) bs k) in
    grind (arith, nat_tests)

pub has-elements : (bs : List Bool) (k : ℕ) → has (elements bs) k ≡ get_or bs k false
has-elements bs k = let from_zero : k ≡ 0 + k = omega arith in ap (has (elements bs)) from_zero ∙ has-elements_from 0 bs k

pub IsAscending-elements : (bs : List Bool) → IsAscending (elements bs)
IsAscending-elements bs = AscendsFrom-elements_from 0 bs

-- a set is the elements of a list of truth values where they have the same members
pub elements-by_members : (bs : List Bool) (s : List ℕ) → IsAscending s → ((k : ℕ) → get_or bs k false ≡ has s k) → elements bs ≡ s
elements-by_members bs s up same = same_members _ s (IsAscending-elements bs) up (λ k. has-elements bs k ∙ same k)

-- how many elements there are does not depend on the index of the first value
pub length-elements_from_both : (p q : ℕ) (bs : List Bool) → length (elements_from p bs) ≡ length (elements_from q bs)
length-elements_from_both p q [] = refl
length-elements_from_both p q (b ∷ bs) = let more = length-elements_from_both (p + 1) (q + 1) bs in grind arith

-- as many elements as true values
pub length-elements : (bs : List Bool) → length (elements bs) ≡ count_by (λ b. b) bs
length-elements = is_count_by (λ bs. length (elements bs)) (λ b. b) refl (λ b bs. let more = length-elements_from_both 1 0 bs in grind arith)

pub length-elements-le : (index : ℕ) (bs : List Bool) → length (elements_from index bs) ≤ length bs
length-elements-le index bs = omega (arith, length-elements_from_both index 0 bs, length-elements bs, count_by-le-length (λ b. b) bs)

-- a value written
pub has-set : (bs : List Bool) (v : ℕ) (b : Bool) (k : ℕ) → v < length bs → has (elements (set bs v b)) k ≡ cond (eqb v k) b (has (elements bs) k)
has-set bs v b k within =
    let new = has-elements (set bs v b) k in
    let old = has-elements bs k in
    grind (arith, nat_tests, get_or-set_same bs v b false within, get_or-set_other bs v k b false)

-- made true, the set gains its place, and made false, it loses it
pub elements-set_true : (bs : List Bool) (v : ℕ) → v < length bs → elements (set bs v true) ≡ put (elements bs) v
elements-set_true bs v within =
    same_members _ _ (IsAscending-elements (set bs v true)) (AscendsFrom-put 0 _ v (omega arith) (IsAscending-elements bs))
    (λ k. let new = has-set bs v true k within in let gains = has-put (elements bs) v k in grind (arith, nat_tests))

pub elements-set_false : (bs : List Bool) (v : ℕ) → v < length bs → elements (set bs v false) ≡ without (elements bs) v
elements-set_false bs v within =
    same_members _ _ (IsAscending-elements (set bs v false)) (AscendsFrom-filter 0 _ _ (IsAscending-elements bs))
    (λ k. let new = has-set bs v false k within in let loses = has-without (elements bs) v k in grind (arith, nat_tests))

pub get_or_padded : (bs : List Bool) (n k : ℕ) → get_or (bs ++ replicate n false) k false ≡ get_or bs k false
get_or_padded bs n k =
    let front = get_or_append_left bs (replicate n false) false k in
    let rest = get_or-append_right bs (replicate n false) (length bs) k false refl in
    let within = get_or-replicate n (k - length bs) false false in
    let past = get_or_past (replicate n false) (k - length bs) false in
    grind (arith, get_or_past bs k false, length-replicate n false)

-- a number that is in no set without it
pub without_absent : (s : List ℕ) (n : ℕ) → IsAscending s → has s n ≡ false → without s n ≡ s
without_absent s n up absent = same_members (without s n) s (AscendsFrom-filter 0 _ s up) up (λ m. let loses = has-without s n m in grind (arith, nat_tests))

-- lists that read alike keep one set
pub elements-alike : (bs cs : List Bool) → ((k : ℕ) → get_or cs k false ≡ get_or bs k false) → elements cs ≡ elements bs
elements-alike bs cs alike = elements-by_members cs (elements bs) (IsAscending-elements bs) (λ k. alike k ∙ sym (has-elements bs k))

pub elements-padded : (bs : List Bool) (n : ℕ) → elements (bs ++ replicate n false) ≡ elements bs
elements-padded bs n = elements-alike bs (bs ++ replicate n false) (get_or_padded bs n)

-- and one that reads so only where a test passes, and false elsewhere, those that pass
pub elements-kept : (p : ℕ → Bool) (bs cs : List Bool) → ((k : ℕ) → get_or cs k false ≡ (p k && get_or bs k false)) → elements cs ≡ filter p (elements bs)
elements-kept p bs cs same =
    elements-by_members cs _ (AscendsFrom-filter 0 p _ (IsAscending-elements bs)) (λ k. same k ∙ ap (λ b. p k && b) (sym (has-elements bs k)) ∙ sym (has-filter p (elements bs) k))
