-- Items that come into a set one by one.
use Rattle.std.proofs.Common.{◌<◌, ◌≤◌, ◌≡◌, ◌≢◌, ℕ, ◌+◌, ◌↔◌, max, Bool, true, false, ◌||◌, List, [], ◌∷◌, ◌++◌, length, take, replicate, sym, ap, ◌∙◌, arith, length-take, Result, Ok, Err, OnOk}
use Rattle.std.proofs.lemmas.{Bool.Decides.nat_tests, List.{get_or-take, get_or_past}}
use Rattle.bit_blocks.specs.Bits.{Bits}
use Rattle.set_algebra.specs.{Choices.IsGreatest, Members.IsSameSet, Sets.{elements, has, put, put_all, bound_of}}
use Rattle.bit_set.specs.{Effects.TakesIn, Faults.IsInsertFault}
use Rattle.bit_set.specs.declared.faults.SetError.{SetError, TheVariants.{Element, Length}}
use Rattle.set_algebra.proofs.{SizeLemmas.put_all-append, MemberLemmas.members_put_all, SetLaws.{bound_of-above, bound_of-least, has-put_all}, ValueLemmas.has-within}
use Rattle.set_algebra.proofs.SetLemmas.{elements-alike, elements-padded, has-elements}
use Rattle.bit_words.specs.{Bounds.greatest, Growth.Grows}

pub bound_of-push : (items : List ℕ) (n : ℕ) → bound_of (items ++ n ∷ []) ≡ max (bound_of items) (n + 1)
bound_of-push [] n = omega arith
bound_of-push (x ∷ xs) n = let rest = bound_of-push xs n in omega (arith, rest)

-- ---- a list that grows ahead of the items

-- The items came into the set that the list keeps, which is as long as they ask or longer. It is just as long where it has
-- at most `few` values more than before them.
pub record IsAhead (few : ℕ) (items : List ℕ) (old new : List Bool) : Type 0 where
  pub members : elements new ≡ put_all (elements old) items
  pub within : max (length old) (bound_of items) ≤ length new
  pub exact : length new ≤ length old + few → length new ≡ max (length old) (bound_of items)
  pub fit : bound_of items ≤ greatest

pub ahead_of_more : (few : ℕ) (items : List ℕ) (n : ℕ) (old mid new : List Bool) → IsAhead few items old mid
    → elements new ≡ put (elements mid) n → n < length new → length mid ≤ length new
    → (length new ≤ length old + few → length new ≡ max (length mid) (n + 1)) → n < greatest → IsAhead few (items ++ n ∷ []) old new
ahead_of_more few items n old mid new so_far gains inside longer exact low = record {
  members = gains ∙ ap (λ s. put s n) so_far.members ∙ sym (put_all-append (elements old) items (n ∷ []));
  within = omega (arith, inside, longer, so_far.within, bound_of-push items n);
  exact = λ short. omega (arith, exact short, so_far.exact (omega (arith, short, longer)), bound_of-push items n);
  fit = omega (arith, low, so_far.fit, bound_of-push items n);
}

bound-put_all : (s items : List ℕ) → bound_of (put_all s items) ≡ max (bound_of s) (bound_of items)
bound-put_all s items =
    let all = put_all s items in
    let member = has-put_all s items in
    let above = bound_of-least all (max (bound_of s) (bound_of items)) (λ n is.
    let one = member n in let old = bound_of-above s n in let put = bound_of-above items n in grind arith) in
    let old = bound_of-least s (bound_of all) (λ n is. bound_of-above all n (let one = member n in grind arith)) in
    let put = bound_of-least items (bound_of all) (λ n is. bound_of-above all n (let one = member n in grind arith)) in
    omega (arith, above, old, put)

-- what is cut off is false
pub elements-cut : (bs : List Bool) (n : ℕ) → bound_of (elements bs) ≤ n → elements (take n bs) ≡ elements bs
elements-cut bs n below = elements-alike bs (take n bs) (λ k.
    let member = has-elements bs k in
    let high = bound_of-above (elements bs) k in
    let past = get_or_past (take n bs) k false in
    grind (arith, nat_tests, get_or-take n bs k false, length-take n bs, member, high, past))

pub bound-elements : (bs : List Bool) → bound_of (elements bs) ≤ length bs
bound-elements bs = bound_of-least (elements bs) (length bs) (λ n is. has-within bs n is)

-- the length of a set that is cut behind its last member
pub bound_of_greatest : (s : List ℕ) (m : ℕ) → IsGreatest s m → bound_of s ≡ m + 1
bound_of_greatest s m greatest =
    let above = bound_of-above s m greatest.0 in
    let least = bound_of-least s (m + 1) (λ n is. let below = greatest.1 n is in omega (arith, below)) in
    omega (arith, above, least)

-- a list that was cut where it may be ahead
pub cut_ahead : (few : ℕ) (items : List ℕ) (old mid new : List Bool) → IsAhead few items old mid → elements new ≡ elements mid
    → (length mid ≤ length old + few → length new ≡ length mid) → (length old + few < length mid → length new ≡ max (length old) (bound_of (elements mid)))
    → TakesIn items old new
cut_ahead few items old mid new ahead same short cut =
    let all = same ∙ ahead.members in
    let bound = ap bound_of ahead.members ∙ bound-put_all (elements old) items in
    let below = bound-elements old in record {
      members = all;
      union = members_put_all (elements old) items (elements new) all;
      long = grind (arith, ahead.exact, short, cut, bound, below);
      fit = ahead.fit;
    }

-- a growth by false values that may fail keeps the set
pub elements-grown : {T E : Type 0} (n k : ℕ) (result : Result T E) (old new : Bits) → OnOk result (new.values ≡ old.values ++ replicate k false)
    → Grows n result old new → elements new.values ≡ elements old.values
elements-grown n k (Ok x) old new ok grows = ap elements ok ∙ elements-padded old.values k
elements-grown n k (Err e) old new ok grows = ap (λ bits. elements bits.values) grows.err

-- ---- which items came in

-- which fault it is
pub IsInsertFault-fault : (fault : SetError) (item capacity : ℕ) → IsInsertFault fault item capacity → (fault ≢ Length) × ((fault ≡ Element) ↔ (item ≡ greatest))
IsInsertFault-fault fault item capacity is = grind arith

-- what items make of a list with no value
pub TakesIn-empty : (items : List ℕ) (old new : List Bool) → old ≡ [] → TakesIn items old new → (elements new ≡ put_all [] items) × (length new ≡ bound_of items) × IsSameSet (elements new) items
TakesIn-empty items old new is took = (
  took.members ∙ ap (λ bs. put_all (elements bs) items) is,
  omega (arith, took.long, ap length is),
  λ n. took.union n ∙ ap (λ bs. has (elements bs) n || has items n) is,
)

-- the item that cannot go in lies past all that came in
pub TakesIn-past : (items : List ℕ) (item : ℕ) (old new : List Bool) (fault : SetError) (capacity : ℕ) → old ≡ []
    → TakesIn items old new → length new ≤ item → IsInsertFault fault item capacity → (bound_of items ≤ item) × (item ≤ greatest)
TakesIn-past items item old new fault capacity is took past refused = let none = ap length is in let long = took.long in grind arith
