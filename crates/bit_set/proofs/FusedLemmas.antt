-- What a set becomes by a pass over two others at once.
use Rattle.std.proofs.Common.{◌≡◌, ℕ, ◌-◌, ◌++◌, max, replicate, length-append, Bool, false, List, [], length, take, ap, refl, ◌∙◌, arith}
use Rattle.std.proofs.lemmas.List.{length-replicate}
use Rattle.bit_blocks.specs.{Merges.merge_of, declared.block.merge.Merge.TheVariants.{Difference, Intersection, Union}}
use Rattle.set_algebra.specs.{Members.{IsDifference, IsUnionWithIntersection}, Sets.{difference, elements, has, intersection, union}}
use Rattle.set_algebra.proofs.AlgebraLemmas.{elements-lengthened, has-difference, has-intersection, has-union}
use Rattle.set_algebra.proofs.{SetLaws.IsAscending-put_all, SetLemmas.{AscendsFrom-filter, IsAscending-elements}}
use Rattle.bit_set.proofs.ReportedLemmas.{elements-cut, elements-except, length-cut}
use Rattle.set_algebra.proofs.SetLemmas.{same_members}

-- ---- a union with an intersection

pub elements-common : (xs ys : List Bool) → elements (merge_of Intersection xs (take (length xs) ys)) ≡ intersection (elements xs) (elements ys)
elements-common xs ys = elements-cut Intersection xs ys _ (λ b. refl) (AscendsFrom-filter 0 _ (elements xs) (IsAscending-elements xs)) (has-intersection (elements xs) (elements ys))

pub members-common : (s t u r : List ℕ) → r ≡ union s (intersection t u) → IsUnionWithIntersection s t u r
members-common s t u r is n = let member = has-union s (intersection t u) n in let both = has-intersection t u n in ap (λ v. has v n) is ∙ grind arith

-- ---- the difference of two others

-- the empty set united with another
united_none : (xs : List Bool) → union [] (elements xs) ≡ elements xs
united_none xs =
    let up = IsAscending-elements xs in
    same_members (union [] (elements xs)) (elements xs) (IsAscending-put_all [] (elements xs) (IsAscending-elements [])) up (λ n. has-union [] (elements xs) n)

pub elements-replaced : (n : ℕ) (xs ys : List Bool) → elements (merge_of Union (replicate n false) (merge_of Difference xs (take (length xs) ys))) ≡ difference (elements xs) (elements ys)
elements-replaced n xs ys =
    let apart = merge_of Difference xs (take (length xs) ys) in
    elements-lengthened Union [] apart n ∙ united_none apart ∙ elements-except xs ys

pub length-replaced : (xs ys zs : List Bool)
    → length (merge_of Union (replicate (length (xs ++ replicate (length ys - length xs) false)) false)
    (merge_of Difference ys (take (length ys) zs))) ≡ max (length xs) (length ys)
length-replaced xs ys zs =
    let front = xs ++ replicate (length ys - length xs) false in
    omega (arith, length-cut Union Difference (replicate (length front) false) ys zs, length-replicate (length front) false, length-append xs (replicate (length ys - length xs) false), length-replicate (length ys - length xs) false)

pub members-replaced : (t u r : List ℕ) → r ≡ difference t u → IsDifference t u r
members-replaced t u r is n = ap (λ v. has v n) is ∙ has-difference t u n
