-- How two sets compare, from the least number that just one of them has.
use Rattle.std.proofs.{Common.{◌≡◌, ℕ, ◌+◌, ◌<◌, ◌≤◌, Bool, true, false, not, ltb, List, [], ◌∷◌, refl, sym, ap, ◌∙◌, arith, inl, inr, ◌||◌}, Math.Bool.not-not}
use Rattle.std.proofs.lemmas.Bool.{true≢false, lt-ltb, not-false, cases_order}
use Rattle.std.proofs.lemmas.Bool.{ne_eqb, Decides.nat_tests}
use Rattle.std.specs.{Cmp.{nat_cmp_total, tied_itself, Lexicographic.{nat_list_cmp_total, bytes_decides}}, Ordering.{ordering_then, ordering_reverse, MatchOrdering}}
use Rattle.std.specs.declared.cmp.Ordering.{Ordering, TheVariants.{Less, Equal, Greater}}
use Rattle.set_algebra.specs.{Sets.{elements, has, AscendsFrom}, Order.{order_of_sets, same_sets}, Mismatches.IsFirstMismatch}
use Rattle.set_algebra.proofs.SetLemmas.{IsAscending-elements, same_members, has-below, has-first}

-- lists with one first number compare as the others do
pub order-cons : (p : ℕ) (s t : List ℕ) → order_of_sets (p ∷ s) (p ∷ t) ≡ order_of_sets s t
order-cons p s t = ap (λ o. ordering_then o (order_of_sets s t)) (tied_itself nat_cmp_total p)

-- a smaller first number comes first
pub order-first : (p y : ℕ) (s t : List ℕ) → p < y → order_of_sets (p ∷ s) (y ∷ t) ≡ Less
order-first p y s t below = let is : ltb p y ≡ true = lt-ltb p y below in rw is refl

-- ---- by members

-- what r says of the members of t from n on: there is one, or none
abbrev Tells : Ordering → ℕ → List ℕ → Type 0
Tells r n t = MatchOrdering r ((k : ℕ) × (n ≤ k) × (has t k ≡ true)) ⊥ ((k : ℕ) → n ≤ k → has t k ≡ false)

tells_alike : (r : Ordering) (n : ℕ) (t u : List ℕ) → ((k : ℕ) → n ≤ k → has t k ≡ has u k) → Tells r n t → Tells r n u
tells_alike Less n t u same told = (told.0, told.1, sym (same told.0 told.1) ∙ told.2)
tells_alike Equal n t u same told = told
tells_alike Greater n t u same told = λ k from. sym (same k from) ∙ told k from

tells_less : (r : Ordering) (n k : ℕ) (t : List ℕ) → Tells r n t → n ≤ k → has t k ≡ true → r ≡ Less
tells_less r n k t told from is = grind arith

-- behind a first number of both, the rests differ as the sets do
rest_apart : (x n : ℕ) (xs ys : List ℕ) → AscendsFrom (x + 1) xs → has (x ∷ xs) n ≡ not (has (x ∷ ys) n) → has (x ∷ xs) n ≡ true → (x < n) × (has xs n ≡ not (has ys n)) × (has xs n ≡ true)
rest_apart x n xs ys up apart holds = let below = has-below (x + 1) xs n up in grind (arith, nat_tests)

-- where the first set has the least number n that just one of them has, r is how it compares to the other
by_members : (low n : ℕ) (s t : List ℕ) (r : Ordering) → AscendsFrom low s → AscendsFrom low t → IsFirstMismatch s t n → has s n ≡ true → Tells r n t → r ≡ order_of_sets s t
by_members low n [] t r up up_too d holds told = absurd (true≢false (sym holds))
by_members low n (x ∷ xs) [] r up up_too d holds told = grind arith
by_members low n (x ∷ xs) (y ∷ ys) r up up_too d holds told =
    elim (cases_order x y) [
      | inl same ↦
          let there : AscendsFrom (x + 1) ys = rw same up_too.1 in
          let second : y ∷ ys ≡ x ∷ ys = ap (λ z. z ∷ ys) (sym same) in
          let rest = rest_apart x n xs ys up.1 (d.here ∙ ap (λ u. not (has u n)) second) holds in
          by_members (x + 1) n xs ys r up.1 there
          (record {
            below = λ k under. (let one = has-below (x + 1) xs k up.1 in let other = has-below (x + 1) ys k there in
                let alike = d.below k under in grind (arith, nat_tests));
            here = rest.1;
          }) rest.2
          (tells_alike r n (y ∷ ys) ys (λ k from. ap (λ b. b || has ys k) (ne_eqb y k (λ e. omega (arith, e, same, rest.0, from)))) told)
          ∙ sym (order-cons x xs ys)
          ∙ ap (order_of_sets (x ∷ xs)) (sym second)
      | inr (inl less) ↦
          let lacks = has-below y (y ∷ ys) x (omega arith, up_too.1) less in
          let past : n ≤ x = (let at = d.below x in let first = has-first x xs in grind (arith, lacks)) in
          tells_less r n y (y ∷ ys) told (omega (arith, past, less)) (has-first y ys) ∙ sym (order-first x y xs ys less)
      | inr (inr more) ↦
          let lacks = has-below x (x ∷ xs) y (omega arith, up.1) more in
          let late = has-below x (x ∷ xs) n (omega arith, up.1) in
          absurd (let at = d.below y in let first = has-first y ys in grind (arith, lacks))
    ]

-- where two sets first differ is seen from either
pub swapped : (s t : List ℕ) (n : ℕ) → IsFirstMismatch s t n → IsFirstMismatch t s n
swapped s t n d = record { below = λ k below. sym (d.below k below); here = sym (not-not (has t n)) ∙ ap not (sym d.here) }

pub order-swapped : (s t : List ℕ) → order_of_sets s t ≡ ordering_reverse (order_of_sets t s)
order-swapped s t = nat_list_cmp_total.antisymm s t

-- ---- what the walk over the blocks found

-- the holder's side of the order, as found
pub by_holder : (xs ys : List Bool) (n : ℕ) (r : Ordering) → IsFirstMismatch (elements xs) (elements ys) n
    → has (elements xs) n ≡ true → Tells r n (elements ys) → r ≡ order_of_sets (elements xs) (elements ys)
by_holder xs ys n r = by_members 0 n (elements xs) (elements ys) r (IsAscending-elements xs) (IsAscending-elements ys)

-- the other side of the order, where the other set has the number
pub by_other_holder : (xs ys : List Bool) (n : ℕ) (r : Ordering) → IsFirstMismatch (elements xs) (elements ys) n → has (elements xs) n ≡ false → Tells r n (elements xs)
    → ordering_reverse r ≡ order_of_sets (elements xs) (elements ys)
by_other_holder xs ys n r d lacks found =
    ap ordering_reverse (by_holder ys xs n r (swapped _ _ n d) (not-false (has (elements ys) n) (sym d.here ∙ lacks)) found) ∙ sym (order-swapped (elements xs) (elements ys))

-- sets with the same members compare as equal
pub order-alike : (xs ys : List Bool) → ((k : ℕ) → has (elements xs) k ≡ has (elements ys) k) → Equal ≡ order_of_sets (elements xs) (elements ys)
order-alike xs ys same =
    sym (tied_itself nat_list_cmp_total (elements xs)) ∙ ap (order_of_sets (elements xs)) (same_members (elements xs) (elements ys) (IsAscending-elements xs) (IsAscending-elements ys) same)

-- sets with the same members are the same
pub same_where_all_agree : (xs ys : List Bool) → ((k : ℕ) → has (elements xs) k ≡ has (elements ys) k) → true ≡ same_sets (elements xs) (elements ys)
same_where_all_agree xs ys same =
    sym ((bytes_decides (elements xs) (elements ys)).1 (same_members (elements xs) (elements ys) (IsAscending-elements xs) (IsAscending-elements ys) same))
