-- What a call returns that reports whether it changed a set, in the words of each operation, and how many elements there are
-- then.
use Rattle.std.proofs.Common.{length-take, ◌≡◌, ℕ, ◌+◌, ◌≤◌, ◌↔◌, ◌-◌, ◌++◌, max, replicate, length-append, Bool, true, false, not, cond, List, [], ◌∷◌, filter, length, take, refl, sym, ap, ◌∙◌}
use Rattle.std.proofs.Common.{arith, ⊎_elim, Result, Ok, Err, get_or, get_or-take}
use Rattle.std.proofs.lemmas.{Bool.{cases_lt}, List.{get_or_past, length-replicate}}
use Rattle.std.specs.{Cmp.Lexicographic.bytes_decides, List.list_all, Prelude.{IfOk, OnOk}}
use Rattle.bit_blocks.{specs.{Merges.{merge_of, merge_of_values}, declared.block.merge.Merge.{Merge, TheVariants.{Difference, Symmetric, Union}}}, proofs.MergeLemmas.{get_or-merged, length-merged}}
use Rattle.bit_set.specs.Effects.{TellsChange}
use Rattle.set_algebra.specs.{Members.IsUnionWithDifference, Order.same_sets, Sets.{IsAscending, difference, elements, has, intersection, is_disjoint, is_subset, symmetric_difference, those_new, union}}
use Rattle.set_algebra.proofs.{AlgebraLemmas.{IsAscending-merge_of_sets, has-difference, has-symmetric, has-union}, MemberLemmas.none_from_members, SetLaws.{IsAscending-put_all, same_values}}
use Rattle.set_algebra.proofs.SetLemmas.{AscendsFrom-filter, elements-padded, IsAscending-elements, elements-by_members, has-elements, has-filter, same_members}
use Rattle.set_algebra.proofs.{SizeLemmas.{has-those_new, length-put_all}, SubsetLemmas.{all_pass, each_passes, is_subset-members, same_tests}}

-- ---- a call that succeeded

-- what it reported, in other words
pub reported_as : {E : Type 0} (s t new : List ℕ) (kept : Bool) (r : Result Bool E) → OnOk r (new ≡ t)
    → IfOk r (λ changed. TellsChange changed s new) → same_sets s t ≡ kept → IfOk r (λ changed. changed ≡ not kept)
reported_as s t new kept (Ok changed) made tells same = tells.changed ∙ ap (λ u. not (same_sets s u)) made ∙ ap not same
reported_as s t new kept (Err fault) made tells same = tt

-- how many there are more, and how many fewer
pub reported_more : {E : Type 0} (s t new : List ℕ) (kept : Bool) (r : Result Bool E) → OnOk r (new ≡ t) → IfOk r (λ changed. TellsChange changed s new)
    → same_sets s t ≡ kept → length s + cond (not kept) 1 0 ≤ length t → IfOk r (λ changed. length s + cond changed 1 0 ≤ length new)
reported_more s t new kept (Ok changed) made tells same more = rw (tells.changed ∙ ap (λ u. not (same_sets s u)) made ∙ ap not same, made) more
reported_more s t new kept (Err fault) made tells same more = tt

pub reported_fewer : {E : Type 0} (s t new : List ℕ) (kept : Bool) (r : Result Bool E) → OnOk r (new ≡ t) → IfOk r (λ changed. TellsChange changed s new)
    → same_sets s t ≡ kept → length t + cond (not kept) 1 0 ≤ length s → IfOk r (λ changed. length new + cond changed 1 0 ≤ length s)
reported_fewer s t new kept (Ok changed) made tells same fewer = rw (tells.changed ∙ ap (λ u. not (same_sets s u)) made ∙ ap not same, made) fewer
reported_fewer s t new kept (Err fault) made tells same fewer = tt

-- what was reported of lists of one length is so of their sets
pub reported_of_lists : (old mid new : List Bool) (changed : Bool) → elements mid ≡ elements old → length new ≡ length mid
    → ((changed ≡ false) ↔ (new ≡ mid)) → changed ≡ not (same_sets (elements old) (elements new))
reported_of_lists old mid new changed same long tells =
    let lists = bytes_decides (elements old) (elements new) in
    let back : elements old ≡ elements new → changed ≡ false = λ e. tells.1 (same_values new mid (sym e ∙ sym same) long) in
    let there : changed ≡ false → elements old ≡ elements new = λ h. sym same ∙ ap elements (sym (tells.0 h)) in
    grind arith

-- and where no change was reported there was none
pub told : (s t : List ℕ) (changed : Bool) → changed ≡ not (same_sets s t) → TellsChange changed s t
told s t changed tells = record { changed = tells; unchanged = λ none. let lists = bytes_decides s t in grind arith }

-- lengthened with false, and then changed in place
pub told_of_lengthened : (old mid new : List Bool) (len k : ℕ) (changed : Bool) → mid ≡ old ++ replicate (len - length old) false → len ≡ k
    → length new ≡ max (length old) k → ((changed ≡ false) ↔ (new ≡ mid)) → TellsChange changed (elements old) (elements new)
told_of_lengthened old mid new len k changed is at long tells =
    told (elements old) (elements new) changed (reported_of_lists old mid new changed (ap elements is ∙ elements-padded old (len - length old))
    (omega (arith, at, long, ap length is, length-append old (replicate (len - length old) false), length-replicate (len - length old) false)) tells)

-- ---- whether a set stays

kept_by_test : (s r : List ℕ) (b : Bool) → IsAscending s → IsAscending r → ((b ≡ true) ↔ ((n : ℕ) → has r n ≡ has s n)) → same_sets s r ≡ b
kept_by_test s r b up also tells =
    let same = bytes_decides s r in
    same_tests (same_sets s r) b (λ is. tells.1 (λ n. ap (λ u. has u n) (sym (same.0 is)))) (λ is. same.1 (same_members s r up also (λ n. sym (tells.0 is n))))

-- united with what is in it
pub union_kept : (s t : List ℕ) → IsAscending s → same_sets s (union s t) ≡ is_subset t s
union_kept s t up =
    kept_by_test s (union s t) (is_subset t s) up (IsAscending-put_all s t up) (
      λ all n. let member = has-union s t n in let inside = (is_subset-members t s).0 all n in grind arith,
      λ each. (is_subset-members t s).1 (λ n is. let member = has-union s t n in let same = each n in grind arith),
    )

-- where each member passes a test: of an intersection, that it is in the other, and of a difference that it is not
pub filter_kept : (p : ℕ → Bool) (s : List ℕ) → IsAscending s → same_sets s (filter p s) ≡ list_all p s
filter_kept p s up =
    kept_by_test s (filter p s) (list_all p s) up (AscendsFrom-filter 0 p s up) (
      λ all n. let member = has-filter p s n in let passes = each_passes p s all n in grind arith,
      λ each. all_pass p s (λ n is. let member = has-filter p s n in let same = each n in grind arith),
    )

-- what is in just one of two sets is the first where the second has none
pub symmetric_kept : (s t : List ℕ) → IsAscending s → (same_sets s (symmetric_difference s t) ≡ true) ↔ (t ≡ [])
symmetric_kept s t up =
    let same = bytes_decides s (symmetric_difference s t) in (
      λ is. none_from_members t (λ n. let member = has-symmetric s t n in let e = ap (λ u. has u n) (same.0 is) in grind arith),
      λ none. same.1 (same_members s (symmetric_difference s t) up (IsAscending-merge_of_sets Symmetric s t up)
          (λ n. let member = has-symmetric s t n in let e = ap (λ u. has u n) none in grind arith)),
    )

-- ---- how many there are

-- one at least where it is reported
some_told : (xs : List ℕ) (b : Bool) → (xs ≡ [] → b ≡ true) → cond (not b) 1 0 ≤ length xs
some_told [] b none = let all = none refl in grind arith
some_told (x ∷ xs) b none = grind arith

pub union_count : (s t : List ℕ) → IsAscending s → length s + cond (not (is_subset t s)) 1 0 ≤ length (union s t)
union_count s t up =
    omega (
      arith,
      length-put_all s t up,
      some_told (those_new s t) (is_subset t s) (λ none. (is_subset-members t s).1 (λ n is.
          let member = has-those_new s t n in
          let here = ap (λ u. has u n) none in
          grind arith)),
    )

pub filter_count : (p : ℕ → Bool) (s : List ℕ) → length (filter p s) + cond (not (list_all p s)) 1 0 ≤ length s
filter_count p [] = omega arith
filter_count p (x ∷ xs) = let rest = filter_count p xs in grind arith

-- ---- a merge with what two others make of each other

-- what two lists become where the second counts as far as the first is long, and nothing comes of what the first lacks
pub elements-cut : (m : Merge) (xs ys : List Bool) (r : List ℕ) → ((b : Bool) → merge_of_values m false b ≡ false) → IsAscending r
    → ((k : ℕ) → has r k ≡ merge_of_values m (has (elements xs) k) (has (elements ys) k)) → elements (merge_of m xs (take (length xs) ys)) ≡ r
elements-cut m xs ys r none up each =
    elements-by_members (merge_of m xs (take (length xs) ys)) r up (λ k.
    let value = get_or-merged m xs (take (length xs) ys) k in
    let member = each k in
    let first = has-elements xs k in
    let second = has-elements ys k in
    ⊎_elim
    (λ early. let cut = get_or-take (length xs) ys k false early in grind arith)
    (λ late. let past = get_or_past xs k false late in grind (arith, none (get_or (take (length xs) ys) k false), none (has (elements ys) k)))
    (cases_lt k (length xs)))

pub elements-except : (xs ys : List Bool) → elements (merge_of Difference xs (take (length xs) ys)) ≡ difference (elements xs) (elements ys)
elements-except xs ys = elements-cut Difference xs ys _ (λ b. refl) (AscendsFrom-filter 0 _ (elements xs) (IsAscending-elements xs)) (has-difference (elements xs) (elements ys))

pub length-cut : (m inner : Merge) (front xs ys : List Bool) → length (merge_of m front (merge_of inner xs (take (length xs) ys))) ≡ max (length front) (length xs)
length-cut m inner front xs ys =
    omega (arith, length-merged m front (merge_of inner xs (take (length xs) ys)), length-merged inner xs (take (length xs) ys), length-take (length xs) ys)

pub length-lengthened-cut : (inner : Merge) (xs ys zs : List Bool)
    → length (merge_of Union (xs ++ replicate (length ys - length xs) false) (merge_of inner ys (take (length ys) zs))) ≡ max (length xs) (length ys)
length-lengthened-cut inner xs ys zs =
    omega (arith, length-cut Union inner (xs ++ replicate (length ys - length xs) false) ys zs, length-append xs (replicate (length ys - length xs) false), length-replicate (length ys - length xs) false)

pub members-except : (s t u r : List ℕ) → r ≡ union s (difference t u) → IsUnionWithDifference s t u r
members-except s t u r is n = let member = has-union s (difference t u) n in let apart = has-difference t u n in ap (λ v. has v n) is ∙ grind arith

pub intersection_kept : (s t : List ℕ) → IsAscending s → same_sets s (intersection s t) ≡ is_subset s t
intersection_kept s t = filter_kept (λ n. has t n) s

pub difference_kept : (s t : List ℕ) → IsAscending s → same_sets s (difference s t) ≡ is_disjoint s t
difference_kept s t = filter_kept (λ n. not (has t n)) s

pub ruleset merges_that_keep = (union_kept, intersection_kept, difference_kept, symmetric_kept)
