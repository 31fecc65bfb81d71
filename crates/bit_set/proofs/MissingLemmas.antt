-- The walk over what is missing in a range: its making, the step to the next block, the end, and how many are left.
use Rattle.std.proofs.Common.{◌≡◌, ℕ, zero, suc, ◌+◌, ◌-◌, ◌*◌, ◌/◌, ◌^◌, ◌<◌, ◌≤◌, min, Bool, true, false, not, ◌&&◌, nat_le, nat_lt, cond, List, [], ◌∷◌, ◌++◌, get_or, length, map, take, drop, All}
use Rattle.std.proofs.Common.{Some, None, refl, sym, ap, ap₂, ◌∙◌, arith, subst, ⊎_elim, get_or-take, get_or-drop, length-take}
use Rattle.std.proofs.lemmas.{Nat.div-mul-add, Bool.{cases_lt, Decides.nat_tests}}
use Rattle.std.proofs.lemmas.List.{get_or_append_left, get_or-append_right, get_or_past, Elements.{All-cons, All-filter, All-head, All-nil, All-tail}, Sums.sum_by-cons}
use Rattle.std.proofs.lemmas.List.FromFn.{get_or-map-range_with_len, length-map-range_with_len, length-range_with_len}
use Rattle.std.{proofs.Math.Nat.{div-add-mod', mod-lt, mul-div_cancel}, specs.List.{count_by, range_with_len}}
use Rattle.bit_blocks.specs.{Digits.is_one, Lowest.{IsCleared, IsLowest}, Ranges.{in_range, values_in_range}}
use Rattle.set_algebra.specs.{Ranges.span, Sets.{AscendsFrom, difference, elements, elements_from, has}}
use Rattle.bit_set.specs.{Indexes.{digits_from, indexes}, Missing.{IsMissingWalk, MissingWalk, PassesMembers, StartsMissing, StaysInRange, missing_left, missing_values}}
use Rattle.set_algebra.proofs.{MemberLemmas.takes_least, RangeLemmas.{IsAscending-span, has-span}}
use Rattle.bit_set.proofs.IndexLemmas.{AscendsFrom-indexes, indexes-lowest, indexes-zero}
use Rattle.set_algebra.proofs.SetLemmas.{AscendsFrom-filter, AscendsFrom-lower, elements-alike, has-below, has-elements, has-elements_from, has-filter, length-elements, same_members}

-- lists of truth values that read alike are true at the same indexes
elements_from-alike : (p : ℕ) (bs cs : List Bool) → ((k : ℕ) → get_or bs k false ≡ get_or cs k false) → elements_from p bs ≡ elements_from p cs
elements_from-alike p [] [] same = refl
elements_from-alike p [] (c ∷ cs) same =
    let rest = elements_from-alike (p + 1) [] cs (λ k. same (suc k)) in let here : false ≡ c = same 0 in grind (arith, rest, here)
elements_from-alike p (b ∷ bs) [] same =
    let rest = elements_from-alike (p + 1) bs [] (λ k. same (suc k)) in let here : b ≡ false = same 0 in grind (arith, rest, here)
elements_from-alike p (b ∷ bs) (c ∷ cs) same =
    let rest = elements_from-alike (p + 1) bs cs (λ k. same (suc k)) in let here : b ≡ c = same 0 in grind (arith, rest, here)

-- what ascends within bounds is no longer than they are apart
length-between : (low high : ℕ) (xs : List ℕ) → AscendsFrom low xs → All (λ n. n < high) xs → length xs ≤ high - low
length-between low high [] up below = omega arith
length-between low high (x ∷ xs) up below =
    let first = All-head (λ n. n < high) x xs below in
    let rest = length-between (x + 1) high xs up.1 (All-tail (λ n. n < high) x xs below) in
    omega (arith, up.0, first, rest)

-- ---- what is left, number by number

get_or-missing : (a b k : ℕ) (values : List Bool) → get_or (missing_values a b values) k false ≡ (nat_lt (a + k) b && not (get_or values (a + k) false))
get_or-missing a b k values =
    let test : ℕ → Bool = λ n. not (get_or values n false) in
    ⊎_elim
    (λ (within : k < b - a). get_or-map-range_with_len test a (b - a) k (a + k) false within refl ∙ grind (arith, nat_tests, within))
    (λ (past : b - a ≤ k). get_or_past (map test (range_with_len a (b - a))) k false (omega (arith, past, length-map-range_with_len test a (b - a))) ∙ grind (arith, nat_tests, past))
    (cases_lt k (b - a))

get_or-in_hand : (w index m end k : ℕ) (values : List Bool)
    → get_or (digits_from m 0 w ++ missing_values (index + w) end values) k false ≡ cond (nat_lt k w) (is_one m k) (nat_lt (index + k) end && not (get_or values (index + k) false))
get_or-in_hand w index m end k values =
    let front = digits_from m 0 w in
    let rest = missing_values (index + w) end values in
    let long = length-map-range_with_len (is_one m) 0 w in
    ⊎_elim
    (λ (within : k < w). get_or_append_left front rest false k (omega (arith, within, long))
    ∙ get_or-map-range_with_len (is_one m) 0 w k k false within (omega arith) ∙ grind (arith, nat_tests, within))
    (λ (past : w ≤ k).
    let at : index + w + (k - w) ≡ index + k = omega (arith, past) in
    get_or-append_right front rest w k false long past ∙ get_or-missing (index + w) end (k - w) values
    ∙ ap (λ n. nat_lt n end && not (get_or values n false)) at ∙ grind (arith, nat_tests, past))
    (cases_lt k w)

-- ---- a block is used up

-- the next one has the numbers past it
pub missing-next : (w index m n end : ℕ) (values : List Bool) → m ≡ 0 → ((j : ℕ) → j < w → is_one n j ≡ (nat_lt (index + w + j) end && not (get_or values (index + w + j) false)))
    → missing_left w index m end values ≡ missing_left w (index + w) n end values
unfolding indexes
missing-next w index m n end values none digits =
    ap (λ k. indexes w index k (missing_values (index + w) end values)) none
    ∙ indexes-zero w index (missing_values (index + w) end values)
    ∙ elements_from-alike (index + w) (missing_values (index + w) end values) (digits_from n 0 w ++ missing_values (index + w + w) end values) (λ k.
    get_or-missing (index + w) end k values
    ∙ ⊎_elim
    (λ (within : k < w). sym (digits k within) ∙ grind (arith, nat_tests, within))
    (λ (past : w ≤ k). grind (arith, nat_tests, past))
    (cases_lt k w)
    ∙ sym (get_or-in_hand w (index + w) n end k values))

-- or there is none
pub missing-end : (w index m end : ℕ) (values : List Bool) → m ≡ 0 → end ≤ index + w → missing_left w index m end values ≡ []
missing-end w index m end values none past =
    ap (λ k. indexes w index k (missing_values (index + w) end values)) none
    ∙ indexes-zero w index (missing_values (index + w) end values)
    ∙ ap (λ n. elements_from (index + w) (map (λ k. not (get_or values k false)) (range_with_len (index + w) n))) (let e : end - (index + w) ≡ 0 = omega (arith, past) in e)

-- ---- the making of a walk

module _ (w index m a b : ℕ) (values : List Bool) (digits : (j : ℕ) → j < w
    → is_one m j ≡ (nat_le (min a b - index) j && (nat_lt (index + j) b && not (get_or values (index + j) false)))) (before : index ≤ min a b) (within : min a b < index + w) where
  has-begun : (n : ℕ) → has (missing_left w index m b values) n ≡ (in_range a b n && not (get_or values n false))
  unfolding indexes
  has-begun n =
      ⊎_elim
      (λ (low : n < index). has-below index (missing_left w index m b values) n (AscendsFrom-indexes w index m (missing_values (index + w) b values)) low ∙ grind (arith, nat_tests, low, before))
      (λ (from : index ≤ n).
      let k : ℕ = n - index in
      let at : index + k ≡ n = omega (arith, from) in
      ap (has (missing_left w index m b values)) (sym at)
      ∙ has-elements_from index (digits_from m 0 w ++ missing_values (index + w) b values) k
      ∙ get_or-in_hand w index m b k values
      ∙ by_block k
      ∙ ap (λ i. in_range a b i && not (get_or values i false)) at)
      (cases_lt n index)
    where
      by_block : (k : ℕ) → cond (nat_lt k w) (is_one m k) (nat_lt (index + k) b && not (get_or values (index + k) false)) ≡ (in_range a b (index + k) && not (get_or values (index + k) false))
      by_block k = let here = digits k in grind (arith, nat_tests, here)

  pub missing-begun : missing_left w index m b values ≡ difference (span a b) (elements values)
  missing-begun =
      same_members _ _
      (AscendsFrom-lower index 0 (missing_left w index m b values) (omega arith) (AscendsFrom-indexes w index m (missing_values (index + w) b values)))
      (AscendsFrom-filter 0 (λ n. not (has (elements values) n)) (span a b) (IsAscending-span a b))
      (λ n. has-begun n ∙ ap₂ (λ s t. s && not t) (sym (has-span a b n)) (sym (has-elements values n)) ∙ grind (arith, has-filter (λ x. not (has (elements values) x)) (span a b) n))

-- which numbers are left then
pub has-missing : (a b : ℕ) (s : List ℕ) (n : ℕ) → has (difference (span a b) s) n ≡ (in_range a b n && not (has s n))
has-missing a b s n = grind (arith, has-filter (λ x. not (has s x)) (span a b) n, has-span a b n)

-- and they are below its end
All-span : (a n b : ℕ) → n ≤ b - a → All (λ k. k < b) (range_with_len a n)
All-span a zero b fits = All-nil (λ k. k < b)
All-span a (suc n) b fits = All-cons (λ k. k < b) a (range_with_len (a + 1) n) (omega (arith, fits)) (All-span (a + 1) n b (omega (arith, fits)))

All-missing : (a b : ℕ) (s : List ℕ) → All (λ n. n < b) (difference (span a b) s)
unfolding span
All-missing a b s = All-filter (λ n. not (has s n)) (λ n. n < b) (span a b) (All-span a (b - a) b (omega arith))

-- With block m in hand, of which the first digit has the index `index`, a walk is at the start of the range from a to b.
pub record BeginsMissing (is_block : Type 0) (w index m a b : ℕ) (values : List Bool) : Type 0 where
  pub walk : IsMissingWalk is_block w index m b values
  pub start : StartsMissing w values a b (record { left = missing_left w index m b values; index = index; end = b })

-- block k has the first number of the range
pub begins_missing : (is_block : Type 0) (w index k m z a b : ℕ) (values : List Bool) → 0 < w → is_block → k ≡ min a b / w → index ≡ k * w
    → ((j : ℕ) → j < w → is_one m j ≡ (nat_le (min a b - index) j && is_one z j))
    → ((j : ℕ) → j < w → is_one z j ≡ (nat_lt (k * w + j) b && not (get_or values (k * w + j) false)))
    → b < 2 ^ 64 → BeginsMissing is_block w index m a b values
begins_missing is_block w index k m z a b values pos lawful first at cut zeros fits =
    let place : index ≡ min a b / w * w = at ∙ ap (λ q. q * w) first in
    let parts = div-add-mod' (min a b) w in
    let offset = mod-lt (min a b) pos in
    let before : index ≤ min a b = omega (arith, place, parts) in
    let within : min a b < index + w = omega (arith, place, parts, offset) in
    let digits = λ (j : ℕ) (to : j < w). cut j to ∙ ap (λ t. nat_le (min a b - index) j && t) (zeros j to ∙ ap (λ i. nat_lt (i + j) b && not (get_or values (i + j) false)) (sym at)) in
    let left = missing-begun w index m a b values digits before within in
    let below : All (λ n. n < b) (missing_left w index m b values) = subst (All (λ n. n < b)) (sym left) (All-missing a b (elements values)) in
    let up = AscendsFrom-indexes w index m (missing_values (index + w) b values) in
    let whole : index ≡ index / w * w = place ∙ ap (λ i. i * w) (sym (ap (λ i. i / w) place ∙ mul-div_cancel (min a b / w) pos)) in
    record {
      walk = record { in_hand = lawful; whole = whole; inside = omega (arith, before); fits = fits; below = below };
      start = record {
        left = left;
        count_fits = omega (arith, length-between index b (missing_left w index m b values) up below, fits);
        index = place;
        end = refl;
      };
    }

-- ---- a call of `next`

module _ (w : ℕ) where
  -- what contracts see of a walk that has block m in hand
  abbrev pub seen_missing : ℕ → ℕ → ℕ → List Bool → MissingWalk
  seen_missing index m end values = record { left = missing_left w index m end values; index = index; end = end }

  -- the next block, block k, is in hand where the one before was used up
  pub IsMissingWalk-next : (before after : Type 0) (index at k m n end : ℕ) (values : List Bool) → 0 < w
      → IsMissingWalk before w index m end values → after → m ≡ 0 → index + w < end → at ≡ index + w → k ≡ at / w
      → ((j : ℕ) → j < w → is_one n j ≡ (nat_lt (k * w + j) end && not (get_or values (k * w + j) false)))
      → IsMissingWalk after w at n end values × (missing_left w at n end values ≡ missing_left w index m end values)
  IsMissingWalk-next before after index at k m n end values pos walk lawful none inside onward block digits =
      let next : at ≡ (index / w + 1) * w = onward ∙ omega (arith, walk.whole) in
      let here : at / w ≡ index / w + 1 = ap (λ i. i / w) next ∙ mul-div_cancel (index / w + 1) pos in
      let whole : at ≡ at / w * w = next ∙ ap (λ q. q * w) (sym here) in
      let place : k * w ≡ index + w = ap (λ q. q * w) block ∙ sym whole ∙ onward in
      let same = missing-next w index m n end values none (λ j within. digits j within ∙ ap (λ i. nat_lt (i + j) end && not (get_or values (i + j) false)) place) in
      let moved : missing_left w at n end values ≡ missing_left w index m end values = ap (λ i. missing_left w i n end values) onward ∙ sym same in (
        record { in_hand = lawful; whole = whole; inside = omega (arith, inside, onward); fits = walk.fits; below = subst (All (λ n. n < end)) (sym moved) walk.below },
        moved,
      )

  -- the lowest one is taken
  pub IsMissingWalk-taken : (before after : Type 0) (index m r i end : ℕ) (values : List Bool) → IsMissingWalk before w index m end values → after → IsLowest m i → i < w → IsCleared w m i r
      → IsMissingWalk after w index r end values × (index + i < end) × (missing_left w index m end values ≡ (index + i) ∷ missing_left w index r end values)
  IsMissingWalk-taken before after index m r i end values walk lawful low within cleared =
      let same = indexes-lowest w index m r i (missing_values (index + w) end values) low within cleared in
      let below = subst (All (λ n. n < end)) same walk.below in (
        record { in_hand = lawful; whole = walk.whole; inside = walk.inside; fits = walk.fits; below = All-tail (λ n. n < end) (index + i) (missing_left w index r end values) below },
        All-head (λ n. n < end) (index + i) (missing_left w index r end values) below,
        same,
      )

  pub passes_to_end : (s : MissingWalk) (index m end : ℕ) (values : List Bool) → index ≤ end → missing_left w index m end values ≡ s.left → end ≡ s.end → s.index ≤ index → m ≡ 0 → end ≤ index + w
      → PassesMembers w s None (seen_missing index m end values)
  unfolding StaysInRange
  passes_to_end s index m end values inside left to onward none past =
      let ended = missing-end w index m end values none past in
      record { item = (sym left ∙ ended, ended); first = tt; block = record { at = (onward, inside, past); end = to } }

  pub passes_to : (is_block : Type 0) (s : MissingWalk) (index m r i end : ℕ) (values : List Bool) → 0 < w
      → IsMissingWalk is_block w index m end values → missing_left w index m end values ≡ s.left → end ≡ s.end
      → IsLowest m i → i < w → IsCleared w m i r
      → PassesMembers w s (Some (index + i)) (seen_missing index r end values)
  unfolding StaysInRange
  passes_to is_block s index m r i end values pos walk left to low within cleared =
      let item = sym left ∙ (IsMissingWalk-taken is_block is_block index m r i end values walk walk.in_hand low within cleared).2 in
      record {
        item = item;
        first = takes_least index s.left (index + i) _ (subst (AscendsFrom index) left (AscendsFrom-indexes w index m (missing_values (index + w) end values))) item;
        block = record { at = in_block (index / w) walk.whole; end = to };
      }
    where
      in_block : (k : ℕ) → index ≡ k * w → index ≡ (index + i) / w * w
      in_block k is = is ∙ ap (λ q. q * w) (sym (ap (λ n. (n + i) / w) is ∙ div-mul-add k w i within))

-- ---- how many are left

-- those that pass a test and those that do not are all
passing_or_not : (f : ℕ → Bool) (xs : List ℕ) → count_by (λ b. b) (map (λ n. not (f n)) xs) + count_by (λ b. b) (map f xs) ≡ length xs
passing_or_not f [] = refl
passing_or_not f (x ∷ xs) =
    let rest = passing_or_not f xs in
    let here = either (f x) in
    omega (arith, rest, here, sum_by-cons (λ b. cond b 1 0) (not (f x)) (map (λ n. not (f n)) xs), sum_by-cons (λ b. cond b 1 0) (f x) (map f xs))
  where
    either : (b : Bool) → cond (not b) 1 0 + cond b 1 0 ≡ 1
    either true = refl
    either false = refl

-- the true values of a range, by their indexes
trues_in_range : (a n : ℕ) (values : List Bool) → count_by (λ b. b) (take n (drop a values)) ≡ count_by (λ b. b) (map (λ i. get_or values i false) (range_with_len a n))
trues_in_range a n values =
    let read = map (λ i. get_or values i false) (range_with_len a n) in
    let alike = elements-alike read (take n (drop a values)) (λ k.
    ⊎_elim
    (λ (within : k < n). get_or-take n (drop a values) k false within ∙ get_or-drop a values k false ∙ sym (get_or-map-range_with_len (λ i. get_or values i false) a n k (a + k) false within refl))
    (λ (past : n ≤ k).
    get_or_past (take n (drop a values)) k false (omega (arith, past, length-take n (drop a values)))
    ∙ sym (get_or_past read k false (omega (arith, past, length-map-range_with_len (λ i. get_or values i false) a n))))
    (cases_lt k n)) in
    sym (length-elements (take n (drop a values))) ∙ ap length alike ∙ length-elements read

-- of the values from a on and below b, those that are not true are the others
pub count-missing : (a b : ℕ) (values : List Bool) → length (elements (missing_values a b values)) + count_by (λ value. value) (values_in_range a b values) ≡ b - a
count-missing a b values =
    omega (arith, length-elements (missing_values a b values), trues_in_range a (b - a) values, passing_or_not (λ i. get_or values i false) (range_with_len a (b - a)), length-range_with_len a (b - a))

-- how far the end is past the block in hand bounds them
pub length-missing : (is_block : Type 0) (w index m end : ℕ) (values : List Bool) → IsMissingWalk is_block w index m end values → length (missing_left w index m end values) ≤ end - index
length-missing is_block w index m end values walk =
    length-between index end (missing_left w index m end values) (AscendsFrom-indexes w index m (missing_values (index + w) end values)) walk.below
