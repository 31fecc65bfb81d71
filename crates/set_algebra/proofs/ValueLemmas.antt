-- What a bit vector does to the set that it keeps.
use Rattle.std.proofs.Common.{◌≡◌, ℕ, ◌<◌, ◌≤◌, Bool, true, false, ◌↔◌, ltb, List, [], length, set, take, replicate, slice_get, Some, sym, ap, ◌∙◌, arith, length-take}
use Rattle.std.proofs.lemmas.{Bool.Decides.nat_tests, List.get_or-take}
use Rattle.std.{proofs.lemmas.{List.{get_or_default, get_or_past, set-get_or}, Option.{get_or_from_slice_get, unwrap_or-slice_get}}, specs.{Option.unwrap_or, List.All}}
use Rattle.set_algebra.{specs.Sets.{has, elements, those_below}, proofs.SetLemmas.{has-elements, elements-by_members, elements-kept, elements-padded}}

pub has-slice_get : (bs : List Bool) (k : ℕ) → unwrap_or (slice_get bs k) false ≡ has (elements bs) k
has-slice_get bs k = unwrap_or-slice_get bs k false ∙ sym (has-elements bs k)

-- what is read within the list is whether the place is a member
pub has-read : (bs : List Bool) (k : ℕ) (b : Bool) → slice_get bs k ≡ Some b → b ≡ has (elements bs) k
has-read bs k b is = ap (λ read. unwrap_or read false) (sym is) ∙ has-slice_get bs k

pub elements-all_false : (n : ℕ) → elements (replicate n false) ≡ []
elements-all_false n = elements-padded [] n

pub elements-take : (bs : List Bool) (n : ℕ) → elements (take n bs) ≡ those_below (elements bs) n
elements-take bs n =
    elements-kept (λ k. ltb k n) bs (take n bs) (λ k. let past = get_or_past (take n bs) k false in grind (arith, nat_tests, get_or-take n bs k false, length-take n bs))

-- an element is below the length
pub has-within : (bs : List Bool) (v : ℕ) → has (elements bs) v ≡ true → v < length bs
has-within bs v is = let member = has-elements bs v in let past = get_or_past bs v false in grind arith

pub has-past : (bs : List Bool) (v : ℕ) → length bs ≤ v → has (elements bs) v ≡ false
has-past bs v past = has-elements bs v ∙ get_or_past bs v false past

-- no value is true exactly where the set is empty
pub empty_where_all_false : (bs : List Bool) → All (λ bit. bit ≡ false) bs ↔ (elements bs ≡ [])
empty_where_all_false bs = (
  λ each. elements-by_members bs [] tt (λ k. let here = each k false in let past = get_or_past bs k false in grind arith),
  λ none k d within. get_or_default bs k d false within ∙ sym (has-elements bs k) ∙ ap (λ s. has s k) none,
)

-- a value that is written again changes nothing
pub written_again : (bs : List Bool) (i : ℕ) (b : Bool) → slice_get bs i ≡ Some b → set bs i b ≡ bs
written_again bs i b is = ap (set bs i) (sym (get_or_from_slice_get bs i b false is)) ∙ set-get_or bs i false

-- the laws of `src/laws.rt` by these
pub ruleset members_are_below_lengths = (has-within, has-past)
