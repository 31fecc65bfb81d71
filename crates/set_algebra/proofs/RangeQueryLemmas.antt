-- What is asked of a set about a range.
use Rattle.std.proofs.Common.{◌≡◌, ◌≢◌, ℕ, ◌-◌, ◌<◌, ◌≤◌, ◌↔◌, Bool, IsTrue, true, false, not, cond, List, ◌++◌, length, take, drop, replicate, slice_get, Some, refl, sym, ap, ◌∙◌, arith, length-take}
use Rattle.std.proofs.Common.{get_or-take, get_or-drop}
use Rattle.std.proofs.lemmas.{Bool.{false≢true, Decides.nat_tests}, List.{get_or-append_right, get_or-replicate, get_or_append_left, get_or_past, length-replicate, Sums.sum_by-append}}
use Rattle.std.specs.List.{count_by}
use Rattle.bit_blocks.specs.Ranges.{in_range, values_in_range}
use Rattle.set_algebra.specs.{Ranges.{span, those_in_range}, Sets.{elements, has, is_disjoint, is_subset}}
use Rattle.set_algebra.proofs.{RangeLemmas.has-span, SetLaws.slice_get-elements, SetLemmas.{elements-kept, length-elements}, SubsetLemmas.{is_disjoint-members, is_subset-members, same_tests}}
use Rattle.set_algebra.proofs.ValueLemmas.{elements-all_false}

-- ---- whether all numbers of a range are in, or any

from_span : (a b n : ℕ) → has (span a b) n ≡ true → (a ≤ n) × (n < b)
from_span a b n is = let here = sym (has-span a b n) ∙ is in (grind (arith, nat_tests, here), grind (arith, nat_tests, here))

into_span : (a b n : ℕ) → a ≤ n → n < b → has (span a b) n ≡ true
into_span a b n from to = has-span a b n ∙ grind (arith, nat_tests)

pub tells_all : (value : Bool) (a b : ℕ) (bs : List Bool) → IsTrue value ↔ ((i : ℕ) → a ≤ i → i < b → slice_get bs i ≡ Some true)
    → IsTrue value ↔ ((n : ℕ) → a ≤ n → n < b → IsTrue (has (elements bs) n))
tells_all value a b bs tells = (
  λ holds n from to. (slice_get-elements bs n).1 (tells.0 holds n from to),
  λ each. tells.1 (λ n from to. (slice_get-elements bs n).0 (each n from to)),
)

pub is_subset-range : (value : Bool) (a b : ℕ) (s : List ℕ) → IsTrue value ↔ ((n : ℕ) → a ≤ n → n < b → IsTrue (has s n)) → value ≡ is_subset (span a b) s
is_subset-range value a b s tells =
    let members = is_subset-members (span a b) s in
    same_tests value (is_subset (span a b) s) (λ holds. members.1 (λ n is. let bounds = from_span a b n is in tells.0 holds n bounds.0 bounds.1))
    (λ all. tells.1 (λ n from to. members.0 all n (into_span a b n from to)))

absent : (t : Bool) → (t ≡ true → ⊥) → t ≡ false
absent true never = absurd (never refl)
absent false never = refl

pub tells_none : (value : Bool) (a b : ℕ) (bs : List Bool) → (value ≡ false)
    ↔ ((i : ℕ) → a ≤ i → i < b → slice_get bs i ≢ Some true) → (value ≡ false) ↔ ((n : ℕ) → a ≤ n → n < b → has (elements bs) n ≡ false)
tells_none value a b bs tells = (
  λ none n from to. absent (has (elements bs) n) (λ is. tells.0 none n from to ((slice_get-elements bs n).0 is)),
  λ none. tells.1 (λ n from to is. false≢true (sym (none n from to) ∙ (slice_get-elements bs n).1 is)),
)

opposite : (a b : Bool) → (a ≡ false → b ≡ true) → (b ≡ true → a ≡ false) → a ≡ not b
opposite a b there back = grind arith

pub is_disjoint-range : (value : Bool) (a b : ℕ) (s : List ℕ) → (value ≡ false) ↔ ((n : ℕ) → a ≤ n → n < b → has s n ≡ false) → value ≡ not (is_disjoint (span a b) s)
is_disjoint-range value a b s tells =
    let members = is_disjoint-members (span a b) s in
    opposite value (is_disjoint (span a b) s)
    (λ none. members.1 (λ n is in_s. let bounds = from_span a b n is in false≢true (sym (tells.0 none n bounds.0 bounds.1) ∙ in_s)))
    (λ apart. tells.1 (λ n from to. absent (has s n) (λ in_s. members.0 apart n (into_span a b n from to) in_s)))

-- ---- how many are in

pub count_range : (a b : ℕ) (bs : List Bool) → count_by (λ value. value) (values_in_range a b bs) ≡ length (those_in_range (elements bs) a b)
count_range a b bs =
    let front : List Bool = replicate a false in
    let mid : List Bool = take (b - a) (drop a bs) in
    let kept = elements-kept (in_range a b) bs (front ++ mid) (λ k.
    let early = get_or_append_left front mid false k in
    let late = get_or-append_right front mid a k false (length-replicate a false) in
    grind (
      arith,
      nat_tests,
      length-replicate a false,
      get_or-replicate a k false false,
      get_or-take (b - a) (drop a bs) (k - a) false,
      get_or_past mid (k - a) false,
      length-take (b - a) (drop a bs),
      get_or-drop a bs (k - a) false,
    )) in
    omega (arith, ap length kept, length-elements (front ++ mid), sum_by-append (λ value. cond value 1 0) front mid, sym (length-elements front) ∙ ap length (elements-all_false a))
