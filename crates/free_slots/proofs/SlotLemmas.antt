-- Which slots are free, as the set keeps them.
use Rattle.std.proofs.Common.{◌≡◌, ◌≢◌, ℕ, zero, suc, ◌+◌, ◌-◌, ◌<◌, ◌≤◌, ◌↔◌, ◌==◌, Bool, true, false, not, ◌||◌, ◌&&◌}
use Rattle.std.proofs.Common.{if◌then◌else◌, leb, ltb, nat_le, nat_lt, List, [], ◌∷◌, length, max, replicate, slice_get}
use Rattle.std.proofs.Common.{Option, None, Some, MatchOption, refl, sym, ap, ◌∙◌, subst, arith}
use Rattle.std.proofs.lemmas.Bool.{Decides.nat_tests, and_parts, and_right, eq-eqb, le-leb, leb-true, lt-ltb, ne_eqb, not-false, or_parts}
use Rattle.std.{specs.List.range_with_len, proofs.{lemmas.List.length-replicate, lemmas.Option.slice_get_within}}
use Rattle.bit_set.specs.{Searches.IsFirstFrom, Choices.IsFirstOf}
use Rattle.bit_set.specs.{Ranges.{span, those_in_range}, Sets.{AscendsFrom, IsAscending, difference, elements, elements_from, has, is_subset, put, those_from, without}}
use Rattle.free_slots.specs.{Runs.Happens, Runs.Event.GiveBack}
use Rattle.free_slots.specs.Slots.{HasNoneBelow, HasNoneBut, SlotTable, IsFreeRun, IsLowestFree, IsLowestRun, all_free, is_taken}

-- what contracts see of the set that keeps these values
abbrev pub table_of : List Bool → SlotTable
table_of values = record { len = length values; free = elements values }

same_table : (m n : ℕ) (xs ys : List ℕ) (s : SlotTable) → m ≡ n → xs ≡ ys → s ≡ record { len = m; free = xs } → s ≡ record { len = n; free = ys }
same_table m n xs ys s len free is =
    is ∙ ap (λ k. let t : SlotTable = record { len = k; free = xs } in t) len ∙ ap (λ zs. let t : SlotTable = record { len = n; free = zs } in t) free

-- a list of `true` keeps each of its places
elements-all : (a n : ℕ) → elements_from a (replicate n true) ≡ range_with_len a n
elements-all a zero = refl
elements-all a (suc n) = ap (λ xs. a ∷ xs) (elements-all (a + 1) n)

has-range : (a n slot : ℕ) → a ≤ slot → slot < a + n → has (range_with_len a n) slot ≡ true
has-range a zero slot from to = absurd (omega arith)
has-range a (suc n) slot from to = let rest = has-range (a + 1) n slot in grind (arith, nat_tests, rest, from, to)

-- where all are free, none is taken
pub none_taken : (n slot : ℕ) → is_taken (all_free n) slot ≡ false
none_taken n slot = let free = has-range 0 n slot in grind (arith, nat_tests, free)

-- in an ascending list, what is below the first is not there
below_first : (low : ℕ) (xs : List ℕ) (n : ℕ) → AscendsFrom low xs → n < low → has xs n ≡ false
below_first low [] n is below = refl
below_first low (x ∷ xs) n is below = let rest = below_first (x + 1) xs n is.1 in grind (arith, nat_tests, rest, is.0, below)

-- the first of an ascending list is the least
pub first_is_least : (xs : List ℕ) (first : ℕ) (rest : List ℕ) → IsAscending xs → xs ≡ first ∷ rest → (n : ℕ) → n < first → has xs n ≡ false
first_is_least xs first rest is at n below =
    rw at (below_first first (first ∷ rest) n (let all = subst IsAscending at is in (omega arith, all.1)) below)

pub first_is_in : (xs : List ℕ) (first : ℕ) (rest : List ℕ) → xs ≡ first ∷ rest → has xs first ≡ true
first_is_in xs first rest at = rw (at, eq-eqb first first refl) refl

-- ---- what the calls leave

pub made : (n : ℕ) (values : List Bool) → values ≡ replicate n true → table_of values ≡ all_free n
made n values is = same_table (length values) n (elements values) (range_with_len 0 n) (table_of values) (ap length is ∙ length-replicate n true) (ap elements is ∙ elements-all 0 n) refl

pub lowest_of : (values : List Bool) (slot : ℕ) (rest : List ℕ) → IsAscending (elements values)
    → ((m : ℕ) → (has (elements values) m ≡ true) ↔ (slice_get values m ≡ Some true)) → elements values ≡ slot ∷ rest
    → IsLowestFree (table_of values) 0 slot
lowest_of values slot rest ascends places at =
    let there = first_is_in (elements values) slot rest at in
    record {
      free = there;
      inside = slice_get_within values slot true ((places slot).0 there);
      above = omega arith;
      lowest = λ other from below. first_is_least (elements values) slot rest ascends at other below;
    }

-- where a walk over all that are free gave r first
pub first_found : (values : List Bool) (all : List ℕ) (r : Option ℕ) → IsAscending (elements values)
    → ((m : ℕ) → (has (elements values) m ≡ true) ↔ (slice_get values m ≡ Some true)) → all ≡ elements values → IsFirstOf all r
    → MatchOption r (elements values ≡ []) (λ slot. IsLowestFree (table_of values) 0 slot)
first_found values all None ascends places is found = sym is ∙ found
first_found values all (Some slot) ascends places is found = lowest_of values slot found.0 ascends places (sym is ∙ found.1)

pub left : (old new : List Bool) (free : List ℕ) → length new ≡ length old → elements new ≡ free → table_of new ≡ record { len = length old; free = free }
left old new free long is = same_table (length new) (length old) (elements new) free (table_of new) long is refl

-- a number that is in is put in for nothing
pub put_again : (s : List ℕ) (n : ℕ) → IsAscending s → ((s t : List ℕ) → IsAscending s → IsAscending t → ((m : ℕ) → has s m ≡ has t m) → s ≡ t) → IsAscending (put s n)
    → ((m : ℕ) → has (put s n) m ≡ (n == m || has s m)) → has s n ≡ true → put s n ≡ s
put_again s n ascends by_members ascends_put members is =
    by_members (put s n) s ascends_put ascends (λ m. grind (arith, nat_tests, members m, is))

pub given_back : (old new : List Bool) (slot : ℕ) (answer : Bool) → slot < length old
    → answer ≡ not (has (elements old) slot) → elements new ≡ put (elements old) slot → length new ≡ max (length old) (slot + 1)
    → (has (elements old) slot ≡ true → put (elements old) slot ≡ elements old) → Happens (table_of old) (GiveBack slot answer) (table_of new)
given_back old new slot true inside is added long again =
    (rw (lt-ltb slot (length old) inside) (sym is), left old new (put (elements old) slot) (omega (arith, long, inside)) added)
given_back old new slot false inside is added long again =
    (and_right (ltb slot (length old)) _ (sym is), left old new (elements old) (omega (arith, long, inside)) (added ∙ again (not-false (has (elements old) slot) (sym is))))

-- ---- from any slot on

module _ (s : List ℕ) (from : ℕ) (members : (m : ℕ) → has (those_from s from) m ≡ (leb from m && has s m)) where
  pub none_free_from : those_from s from ≡ [] → (n : ℕ) → from ≤ n → has s n ≡ false
  none_free_from none n above = ap (λ b. b && has s n) (sym (le-leb from n above)) ∙ sym (members n) ∙ ap (λ xs. has xs n) none

  pub least_from : (first : ℕ) (rest : List ℕ) → IsAscending (those_from s from) → those_from s from ≡ first ∷ rest
      → (has s first ≡ true) × (from ≤ first) × ((n : ℕ) → from ≤ n → n < first → has s n ≡ false)
  least_from first rest ascends at =
      let there = and_parts (leb from first) (has s first) (sym (members first) ∙ first_is_in (those_from s from) first rest at) in (
        there.1,
        leb-true from first there.0,
        λ n above below. ap (λ b. b && has s n) (sym (le-leb from n above)) ∙ sym (members n) ∙ first_is_least (those_from s from) first rest ascends at n below,
      )

pub lowest_from : (values : List Bool) (from slot : ℕ) (rest : List ℕ)
    → ((m : ℕ) → has (those_from (elements values) from) m ≡ (leb from m && has (elements values) m))
    → IsAscending (those_from (elements values) from)
    → ((m : ℕ) → (has (elements values) m ≡ true) ↔ (slice_get values m ≡ Some true)) → those_from (elements values) from ≡ slot ∷ rest → IsLowestFree (table_of values) from slot
lowest_from values from slot rest members ascends places at =
    let least = least_from (elements values) from members slot rest ascends at in
    record { free = least.0; inside = slice_get_within values slot true ((places slot).0 least.0); above = least.1; lowest = least.2 }

-- ---- where none below a number is free

-- all are from there on
pub all_from : (s : List ℕ) (from : ℕ) → HasNoneBelow s from → those_from s from ≡ s
all_from [] from none = refl
all_from (x ∷ xs) from none =
    let here = none x in
    let above : from ≤ x = grind (arith, nat_tests, here, first_is_in (x ∷ xs) x xs refl) in
    ap (λ b. if b then x ∷ those_from xs from else those_from xs from) (le-leb from x above)
    ∙ ap (λ ys. x ∷ ys) (all_from xs from (λ n below. (or_parts (x == n) (has xs n) (none n below)).1))

-- where the one that may be is not, or lies beyond, there is none
pub none_below : (s : List ℕ) (given from : ℕ) → HasNoneBut s given from → (given < from → has s given ≡ false) → HasNoneBelow s from
none_below s given from none not_given n below = let other = none n below in grind (arith, nat_tests, other, not_given)

-- where the search goes once one is taken, and no other from there up to it is free
pub none_but_taken : (s : List ℕ) (given from slot from_then taken : ℕ)
    → ((m : ℕ) → has (without s taken) m ≡ (not (taken == m) && has s m)) → HasNoneBut s given from
    → ((n : ℕ) → slot ≤ n → n < taken → has s n ≡ false) → ((n : ℕ) → n < from_then → from ≤ n → (slot ≤ n) × (n ≤ taken))
    → HasNoneBut (without s taken) given from_then
none_but_taken s given from slot from_then taken members none lowest between n below other =
    let before = λ (first : n < from). none n first other in
    let at = between n below in
    let past = lowest n in
    grind (arith, nat_tests, members n, before, at, past)

-- where the search goes once one is given back, before it is in
pub none_but_less : (s : List ℕ) (given from slot given_then from_then : ℕ) (is_free : Bool) → HasNoneBut s given from
    → is_free ≡ has s given → ((n : ℕ) → n < from_then → n ≢ given_then
    → (n < from) × (n ≢ slot) × (is_free ≡ true → n ≢ given)) → HasNoneBut s given_then from_then
none_but_less s given from slot given_then from_then is_free none tested apart n below other =
    let (within, not_slot, not_given) = apart n below other in
    let absent = none n within in
    grind (arith, nat_tests, tested, not_given, absent)

-- and once it is in
pub none_but_given : (s : List ℕ) (given from slot given_then from_then : ℕ) (is_free : Bool)
    → ((m : ℕ) → has (put s slot) m ≡ (slot == m || has s m)) → HasNoneBut s given from → is_free ≡ has s given
    → ((n : ℕ) → n < from_then → n ≢ given_then → (n < from) × (n ≢ slot) × (is_free ≡ true → n ≢ given)) → HasNoneBut (put s slot) given_then from_then
none_but_given s given from slot given_then from_then is_free members none tested apart n below other =
    members n
    ∙ ap (λ b. b || has s n) (ne_eqb slot n (λ same. (apart n below other).1 (sym same)))
    ∙ none_but_less s given from slot given_then from_then is_free none tested apart n below other

-- ---- several slots in a row

-- a run that begins below what is free, or before a slot that is not, is none
pub no_run_across : (s : SlotTable) (count from first end other : ℕ) → 0 < count → end < first + count
    → ((n : ℕ) → from ≤ n → n < first → has s.free n ≡ false) → has s.free end ≡ false
    → ((n : ℕ) → n < from → IsFreeRun s count n → ⊥) → other < end → IsFreeRun s count other → ⊥
no_run_across s count from first end other some near between taken none below is =
    let earlier = λ (before : other < from). none other before is in
    let own = is.free other (omega arith) (omega (arith, some)) in
    let gap = between other in
    let over = is.free end (omega (arith, below)) in
    grind (arith, nat_tests)

-- where none is free there is none
pub no_run_past : (s : SlotTable) (count from other : ℕ) → 0 < count → ((n : ℕ) → from ≤ n → has s.free n ≡ false) → ((n : ℕ) → n < from → IsFreeRun s count n → ⊥) → IsFreeRun s count other → ⊥
no_run_past s count from other some past none is =
    let earlier = λ (before : other < from). none other before is in
    let own = is.free other (omega arith) (omega (arith, some)) in
    let out = past other in
    grind (arith, nat_tests)

-- the first slots in a row that are enough
pub lowest_run : (values : List Bool) (count from first end : ℕ) → 0 < count → IsFirstFrom (has (elements values)) from first
    → IsFirstFrom (λ m. not (has (elements values) m)) first end → end ≤ max first (length values) → first < length values
    → count ≤ end - first
    → ((n : ℕ) → n < from → IsFreeRun (table_of values) count n → ⊥) → IsLowestRun (table_of values) count first
lowest_run values count from first end some found past within inside enough none = record {
  run = record { free = λ n from_on below. not-false (has (elements values) n) (past.between n from_on (omega (arith, below, enough, past.reached))); inside = omega (arith, within, inside, enough, past.reached) };
  lowest = λ other below is.
      let earlier = λ (before : other < from). none other before is in
      let own = is.free other (omega arith) (omega (arith, some)) in
      let gap = found.between other in
      grind (arith, nat_tests);
}

-- so many are among the free ones
pub run_counted : (s : SlotTable) (count first n : ℕ) → IsFreeRun s count first
    → ((k : ℕ) → has (span first (first + count)) k ≡ (nat_le first k && nat_lt k (first + count)))
    → length (span first (first + count)) ≡ first + count - first
    → (is_subset (span first (first + count)) s.free ≡ true) ↔ ((k : ℕ) → has (span first (first + count)) k ≡ true
    → has s.free k ≡ true) → (is_subset (span first (first + count)) s.free ≡ true)
    ↔ (difference (span first (first + count)) s.free ≡ [])
    → length (difference (span first (first + count)) s.free) + length (those_in_range s.free first
    (first + count)) ≡ length (span first (first + count))
    → n + length (those_in_range s.free first (first + count)) ≡ length s.free → n + count ≡ length s.free
run_counted s count first n is members long subset none parts left =
    let within = subset.1 (λ k is_in. let member = members k in let free = is.free k in grind (arith, nat_tests)) in
    let rest = ap length (none.0 within) in
    omega (arith, rest, parts, left, long)
