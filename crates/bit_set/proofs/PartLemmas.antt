-- A walk over a part of a set: the block in which it ends is in hand at the back.
use Rattle.std.proofs.Common.{◌≡◌, ℕ, zero, suc, ◌+◌, ◌-◌, ◌*◌, ◌/◌, ◌^◌, ◌<◌, ◌≤◌, ◌&&◌, if◌then◌else◌, nat_lt, Bool, true, false, List, [], ◌∷◌, ◌++◌, map, length, drop, ◌==◌, max, All, min}
use Rattle.std.proofs.Common.{refl, sym, ap, ap₂, ◌∙◌, subst, inl, inr, arith, mul-le-mul_right, mod-lt, div-add-mod', ◌⊎◌}
use Rattle.std.proofs.lemmas.Bool.{cond_both, eqb-false, cases_lt, Decides.nat_tests}
use Rattle.std.proofs.lemmas.List.{append-nil, append_assoc, map-append, Elements.{All-nil, All-cons, All-head, All-tail, All-filter, All-map, All-weaker, filter-append}, Sums.{count_by-le-length, length-filter}}
use Rattle.bit_blocks.specs.{Bits.blocks_for, Digits.is_one}
use Rattle.bit_words.specs.Nonzero.{CutsAt, Hand, Nonzeros, nonzero_from}
use Rattle.set_algebra.specs.{Sets.{AscendsFrom, IsAscending, elements, elements_from, those_below}, Ranges.those_in_range}
use Rattle.bit_set.specs.{Indexes.{digits_from, indexes, indexes_of, left_between, seen_of, IsSparseWalk}, Walk.{blocks_past, IsAtBlockOf, IsAtBlocksOf, IsAtStartOfPart}}
use Rattle.bit_set.proofs.{EntryLemmas.{blocks_of_entry, passed_in_block, some_index}, IndexLemmas.{AscendsFrom-indexes, indexes-below, indexes-none}}
use Rattle.set_algebra.proofs.{SplitLemmas.both_tests, SetLemmas.{AscendsFrom-filter, AscendsFrom-reach, IsAscending-elements}}
use Rattle.bit_set.proofs.{FromLemmas.BeginsFrom, SparseLemmas.{ends_apart, indexes_of-append, whole_index}}

-- ---- those of a block below a number

below_step : (end p : ℕ) (b c : Bool) (xs ys : List ℕ) → c ≡ (nat_lt p end && b) → ys ≡ those_below xs end → (if c then p ∷ ys else ys) ≡ those_below (if b then p ∷ xs else xs) end
below_step end p b c xs ys here rest = grind (arith, nat_tests)

digits_below : (m r end a n p : ℕ) → ((j : ℕ) → a ≤ j → j < a + n → is_one r j ≡ (nat_lt (p + (j - a)) end && is_one m j))
    → elements_from p (digits_from r a n ++ []) ≡ those_below (elements_from p (digits_from m a n ++ [])) end
digits_below m r end a zero p cut = refl
digits_below m r end a (suc n) p cut =
    let e : p + (a - a) ≡ p = omega arith in
    below_step end p (is_one m a) (is_one r a) _ _ (cut a (omega arith) (omega arith) ∙ ap (λ q. nat_lt q end && is_one m a) e)
    (digits_below m r end (a + 1) n (p + 1) (λ j from to.
    let e : p + (j - a) ≡ p + 1 + (j - (a + 1)) = omega (arith, from) in
    cut j (omega (arith, from)) (omega (arith, to)) ∙ ap (λ q. nat_lt q end && is_one m j) e))

same_test : (end p j : ℕ) → nat_lt j (end - p) ≡ nat_lt (p + (j - 0)) end
same_test end p j = grind (arith, nat_tests)

pub indexes-cut : (w p m r end : ℕ) → ((j : ℕ) → j < w → is_one r j ≡ (nat_lt j (end - p) && is_one m j)) → indexes w p r [] ≡ those_below (indexes w p m []) end
unfolding indexes
indexes-cut w p m r end cut = digits_below m r end 0 w p (λ j from to. cut j (omega (arith, to)) ∙ ap (λ b. b && is_one m j) (same_test end p j))

-- ---- those of other blocks

all_kept : (end : ℕ) (xs : List ℕ) → All (λ n. n < end) xs → those_below xs end ≡ xs
all_kept end [] below = refl
all_kept end (x ∷ xs) below =
    let first = All-head (λ n. n < end) x xs below in
    let test : nat_lt x end ≡ true = grind (arith, nat_tests) in
    rw test (ap (λ ys. x ∷ ys) (all_kept end xs (All-tail (λ n. n < end) x xs below)))

none_kept : (end low : ℕ) (xs : List ℕ) → end ≤ low → AscendsFrom low xs → those_below xs end ≡ []
none_kept end low [] past up = refl
none_kept end low (x ∷ xs) past up =
    let from = up.0 in
    let test : nat_lt x end ≡ false = grind (arith, nat_tests) in
    rw test (none_kept end (x + 1) xs (omega (arith, past, from)) up.1)

all_less : (a b : ℕ) (xs : List ℕ) → a ≤ b → All (λ n. n < a) xs → All (λ n. n < b) xs
all_less a b xs to below = All-weaker (λ n. n < a) (λ n. n < b) (λ n less. omega (arith, less, to)) xs below

module _ {X : Type 0} (w : ℕ) (number : X → ℕ) where
  entries_before : (end k : ℕ) (entries : List (ℕ × X)) → k * w ≤ end → All (λ (entry : ℕ × X). entry.0 < k) entries → those_below (indexes_of w number entries) end ≡ indexes_of w number entries
  entries_before end k [] to before = refl
  entries_before end k (entry ∷ entries) to before =
      let here = indexes w (entry.0 * w) (number entry.1) [] in
      let first = mul_step entry.0 k (All-head (λ (e : ℕ × X). e.0 < k) entry entries before) in
      filter-append (λ x. nat_lt x end) here (indexes_of w number entries)
      ∙ ap₂ ◌++◌ (all_kept end here (all_less (entry.0 * w + w) end here (omega (arith, first, to)) (indexes-below w (entry.0 * w) (number entry.1))))
      (entries_before end k entries to (All-tail (λ (e : ℕ × X). e.0 < k) entry entries before))
    where
      mul_step : (q k : ℕ) → q < k → q * w + w ≤ k * w
      mul_step q k less = let product = mul-le-mul_right w (let e : q + 1 ≤ k = omega (arith, less) in e) in omega (arith, product)

  entries_past : (end k : ℕ) (entries : List (ℕ × X)) → end ≤ (k + 1) * w → All (λ (entry : ℕ × X). k < entry.0) entries → those_below (indexes_of w number entries) end ≡ []
  entries_past end k [] from past = refl
  entries_past end k (entry ∷ entries) from past =
      let here = indexes w (entry.0 * w) (number entry.1) [] in
      let over = All-head (λ (e : ℕ × X). k < e.0) entry entries past in
      let first = mul-le-mul_right w (let e : k + 1 ≤ entry.0 = omega (arith, over) in e) in
      filter-append (λ x. nat_lt x end) here (indexes_of w number entries)
      ∙ ap₂ ◌++◌ (none_kept end (entry.0 * w) here (omega (arith, first, from)) (AscendsFrom-indexes w (entry.0 * w) (number entry.1) []))
      (entries_past end k entries from (All-tail (λ (e : ℕ × X). k < e.0) entry entries past))

-- ---- the indexes of the blocks

-- those before k ascend up to it
ascends_to : (low k : ℕ) (xs ys : List ℕ) → low ≤ k + 1 → AscendsFrom low (xs ++ ys) → All (λ x. x < k) xs → AscendsFrom low (xs ++ (k + 1) ∷ [])
ascends_to low k [] ys to up before = (to, tt)
ascends_to low k (x ∷ xs) ys to up before =
    let first = All-head (λ x. x < k) x xs before in
    (up.0, ascends_to (x + 1) k xs ys (omega (arith, first)) up.1 (All-tail (λ x. x < k) x xs before))

-- one that comes is between the ends
ascends_past : (low s x : ℕ) (xs ys : List ℕ) → AscendsFrom low (xs ++ (x ∷ (ys ++ s ∷ []))) → (low ≤ x) × (x < s)
ascends_past low s x [] ys up = let reach = AscendsFrom-reach (x + 1) ys s up.1 in (up.0, omega (arith, reach))
ascends_past low s x (y ∷ xs) ys up = let rest = ascends_past (y + 1) s x xs ys up.1 in let first = up.0 in (omega (arith, rest, first), rest.1)

each_front : {X : Type 0} (P : X → Type 0) (xs ys : List X) → All P (xs ++ ys) → All P xs
each_front P [] ys each = All-nil P
each_front P (x ∷ xs) ys each = All-cons P x xs (All-head P x (xs ++ ys) each) (each_front P xs ys (All-tail P x (xs ++ ys) each))

-- ---- the walk

-- The walk s over blocks with `front` in hand, and nothing at the back, ended in the block of `new`, before `end`.
pub record IsCutBy {X : Type 0} (w : ℕ) (number : X → ℕ) (is_block : X → Type 0) (front back : Hand X) (s : Nonzeros X) (end : ℕ) (block : X) (t : Nonzeros X) (new : Hand X) : Type 0 where
  pub walk : IsSparseWalk w number is_block front s back
  pub used_up : number back.block ≡ 0
  pub some : All (λ entry. 0 < number entry.1) s.left
  pub cut : CutsAt w number (new.index / w) (end - new.index) s new.block t
  pub whole : new.index ≡ new.index / w * w
  pub at_back : is_block new.block
  pub in_hand : is_block block
  pub digit : (j : ℕ) → j < w → is_one (number block) j ≡ (nat_lt j (end - front.index) && is_one (number front.block) j)
  pub from : front.index / w ≤ new.index / w
  pub to : new.index / w ≤ back.index / w
  pub before : front.index / w < new.index / w → new.index ≤ end
  pub after : new.index / w < back.index / w → end ≤ new.index + w

module _ {X : Type 0} (w : ℕ) (number : X → ℕ) (is_block : X → Type 0) (pos : 0 < w) (small : (x : X) → is_block x → number x < 2 ^ w) where
  abbrev index_of : ℕ × X → ℕ
  index_of entry = entry.0

  -- the indexes of the blocks, in three parts
  numbers : (s t at past : List (ℕ × X)) (last : ℕ) → s ≡ t ++ (at ++ past) → map index_of s ++ last ∷ [] ≡ map index_of t ++ (map index_of at ++ (map index_of past ++ last ∷ []))
  numbers s t at past last split =
      ap (λ ys. ys ++ last ∷ []) (ap (map index_of) split ∙ map-append index_of t (at ++ past) ∙ ap (λ ys. map index_of t ++ ys) (map-append index_of at past))
      ∙ append_assoc (map index_of t) (map index_of at ++ map index_of past) (last ∷ [])
      ∙ ap (λ ys. map index_of t ++ ys) (append_assoc (map index_of at) (map index_of past) (last ∷ []))

  each_before : (k : ℕ) (entries : List (ℕ × X)) → All (λ (entry : ℕ × X). entry.0 < k) entries → All (λ x. x < k) (map index_of entries)
  each_before k entries each = All-map (λ x. x < k) index_of entries each

  kept_before : (first k end : ℕ) (entries : List (ℕ × X)) (more : List ℕ) → AscendsFrom (first + 1) (map index_of entries ++ more)
      → All (λ (entry : ℕ × X). entry.0 < k) entries → (first < k → k * w ≤ end) → those_below (indexes_of w number entries) end ≡ indexes_of w number entries
  kept_before first k end [] more up before to = refl
  kept_before first k end (entry ∷ entries) more up before to =
      let least = up.0 in
      let here = All-head (λ (e : ℕ × X). e.0 < k) entry entries before in
      entries_before w number end k (entry ∷ entries) (to (omega (arith, least, here))) before

  dropped_past : (low k last end : ℕ) (xs : List ℕ) (entries : List (ℕ × X)) → AscendsFrom low (xs ++ (map index_of entries ++ (last + 1) ∷ []))
      → All (λ (entry : ℕ × X). k < entry.0) entries → (k < last → end ≤ (k + 1) * w) → those_below (indexes_of w number entries) end ≡ []
  dropped_past low k last end xs [] up past from = refl
  dropped_past low k last end xs (entry ∷ entries) up past from =
      let reach = ascends_past low (last + 1) entry.0 xs (map index_of entries) up in
      let here = All-head (λ (e : ℕ × X). k < e.0) entry entries past in
      entries_past w number end k (entry ∷ entries) (from (omega (arith, reach, here))) past

  -- the ones of the block in which it ends
  indexes_at : (k p whole : ℕ) (at : List (ℕ × X)) → p ≡ k * w → ((at ≡ []) × (whole ≡ 0)) ⊎ ((x : X) × (at ≡ (k, x) ∷ []) × (number x ≡ whole)) → indexes_of w number at ≡ indexes w p whole []
  indexes_at k p whole at p_is entry =
      elim entry [
        | inl none ↦ ap (indexes_of w number) none.0 ∙ sym (indexes-none w p whole none.1)
        | inr some ↦ ap (indexes_of w number) some.1 ∙ append-nil (indexes w (k * w) (number some.0) []) ∙ ap₂ (λ q m. indexes w q m []) (sym p_is) some.2
      ]

  module _ (front back new : Hand X) (s t : Nonzeros X) (end : ℕ) (block : X) (is : IsCutBy w number is_block front back s end block t new) where
    up_parts : AscendsFrom (front.index / w + 1) (map index_of t.left ++ (map index_of is.cut.at ++ (map index_of is.cut.past ++ (back.index / w + 1) ∷ [])))
    up_parts = subst (AscendsFrom (front.index / w + 1)) (numbers s.left t.left is.cut.at is.cut.past (back.index / w + 1) is.cut.split) is.walk.past

    -- what is left is what was, below the end
    pub cut_left : left_between w number (record { block = block; index = front.index }) t.left new ≡ those_below (left_between w number front s.left back) end
    cut_left =
        let k = new.index / w in
        let below = λ (xs : List ℕ). those_below xs end in
        let ones = indexes w front.index (number front.block) [] in
        let inner = indexes_of w number t.left in
        let at = indexes_of w number is.cut.at in
        let past = indexes_of w number is.cut.past in
        let none : indexes w back.index (number back.block) [] ≡ [] = indexes-none w back.index (number back.block) is.used_up in
        let parts : indexes_of w number s.left ≡ inner ++ (at ++ past) = ap (indexes_of w number) is.cut.split
        ∙ indexes_of-append w number t.left (is.cut.at ++ is.cut.past) ∙ ap (λ ys. inner ++ ys) (indexes_of-append w number is.cut.at is.cut.past) in
        let old : left_between w number front s.left back ≡ ones ++ (inner ++ (at ++ past)) =
        ap₂ (λ xs ys. ones ++ (xs ++ ys)) parts none ∙ ap (λ xs. ones ++ xs) (append-nil (inner ++ (at ++ past))) in
        let reassociated = subst (AscendsFrom (front.index / w + 1))
        (sym (append_assoc (map index_of t.left) (map index_of is.cut.at) (map index_of is.cut.past ++ (back.index / w + 1) ∷ []))) up_parts in
        let kept : below inner ≡ inner = kept_before (front.index / w) k end t.left _ up_parts is.cut.before (λ on. let e = is.before on in omega (arith, e, is.whole)) in
        let dropped : below past ≡ [] = dropped_past (front.index / w + 1) k (back.index / w) end
        (map index_of t.left ++ map index_of is.cut.at) is.cut.past reassociated is.cut.after (λ on. let e = is.after on in omega (arith, e, is.whole)) in
        let here : below at ≡ indexes w new.index (number new.block) [] =
        ap below (indexes_at k new.index is.cut.whole is.cut.at is.whole is.cut.entry) ∙ sym (indexes-cut w new.index is.cut.whole (number new.block) end is.cut.digit) in
        let split = λ (xs ys : List ℕ). filter-append (λ x. nat_lt x end) xs ys in
        sym (
        ap below old
        ∙ split ones (inner ++ (at ++ past))
        ∙ ap₂ ◌++◌ (sym (indexes-cut w front.index (number front.block) (number block) end is.digit))
        (split inner (at ++ past) ∙ ap₂ ◌++◌ kept (split at past ∙ ap₂ ◌++◌ here dropped ∙ append-nil (indexes w new.index (number new.block) [])))
        )

    -- it is a walk over that
    pub cut_walk : IsSparseWalk w number is_block (record { block = block; index = front.index }) t new
    cut_walk =
        let old = left_between w number front s.left back in
        let count = ap length is.cut.same in
        let few = length-filter (λ n. nat_lt n end) old in
        let fewer = count_by-le-length (λ n. nat_lt n end) old in
        record {
          in_hand = is.in_hand;
          at_back = is.at_back;
          each = each_front (λ (entry : ℕ × X). is_block entry.1) t.left (is.cut.at ++ is.cut.past) (subst (All (λ (entry : ℕ × X). is_block entry.1)) is.cut.split is.walk.each);
          whole = is.walk.whole;
          whole_back = is.whole;
          past = ascends_to (front.index / w + 1) (new.index / w) (map index_of t.left) _ (omega (arith, is.from)) up_parts (each_before (new.index / w) t.left is.cut.before);
          inside = omega (arith, is.to, is.walk.inside, count);
          fits = subst (λ xs. (length xs - 1) * w < 2 ^ 64) (sym is.cut.same) is.walk.fits;
          ascends = subst IsAscending (sym cut_left) (AscendsFrom-filter 0 (λ n. nat_lt n end) old is.walk.ascends);
          below = subst (All (λ n. n < 2 ^ 64 - 1)) (sym cut_left) (All-filter (λ n. nat_lt n end) (λ n. n < 2 ^ 64 - 1) old is.walk.below);
          count_fits = omega (arith, ap length cut_left, few, fewer, is.walk.count_fits);
        }

    -- ---- how often it pulls

    entry_in : 0 < number new.block → front.index / w < new.index / w
    entry_in some =
        elim is.cut.entry [
          | inl none ↦ absurd (
              some_index w new.index (number new.block) some (small new.block is.at_back) (
              indexes-cut w new.index is.cut.whole (number new.block) end is.cut.digit
              ∙ ap (λ xs. those_below xs end) (indexes-none w new.index is.cut.whole none.1)
              )
              )
          | inr found ↦
              let up = subst (λ (at : List (ℕ × X)). AscendsFrom (front.index / w + 1)
              (map index_of t.left ++ (map index_of at ++ (map index_of is.cut.past ++ (back.index / w + 1) ∷ [])))) found.1 up_parts in
              let reach = ascends_past (front.index / w + 1) (back.index / w + 1) (new.index / w) (map index_of t.left) (map index_of is.cut.past) up in
              omega (arith, reach)
        ]

  -- the blocks past block q are those that are left
  blocks_of_walk : (q k : ℕ) (r : X) (entries : List (ℕ × X)) → is_block r → AscendsFrom (q + 1) (map index_of entries ++ (k + 1) ∷ [])
      → All (λ (entry : ℕ × X). entry.0 < k) entries → All (λ (entry : ℕ × X). is_block entry.1) entries → All (λ (entry : ℕ × X). 0 < number entry.1) entries → (0 < number r → q < k)
      → length (blocks_past w q (indexes_of w number entries ++ indexes w (k * w) (number r) [])) ≡ length entries + min 1 (number r)
  blocks_of_walk q k r [] lawful up before each some within =
      elim (cases_lt 0 (number r)) [
        | inl is ↦
            let ones = indexes w (k * w) (number r) [] in
            let one = ap (λ xs. length (blocks_past w q xs)) (sym (append-nil ones))
            ∙ ap length (blocks_of_entry w number q k (number r) ones [] pos (within is) refl (some_index w (k * w) (number r) is (small r lawful))) in
            omega (arith, one, is)
        | inr none ↦ ap (λ xs. length (blocks_past w q xs)) (indexes-none w (k * w) (number r) (omega (arith, none))) ∙ omega (arith, none)
      ]
  blocks_of_walk q k r (entry ∷ entries) lawful up before each some within =
      let ones = indexes w (entry.0 * w) (number entry.1) [] in
      let rest = indexes_of w number entries ++ indexes w (k * w) (number r) [] in
      let m = number entry.1 in
      let least = up.0 in
      let below = All-head (λ (e : ℕ × X). e.0 < k) entry entries before in
      let here = ap (λ xs. length (blocks_past w q xs)) (append_assoc ones (indexes_of w number entries) (indexes w (k * w) (number r) []))
      ∙ ap length (blocks_of_entry w number q entry.0 m ones rest pos (omega (arith, least)) refl
      (some_index w (entry.0 * w) m (All-head (λ (e : ℕ × X). 0 < number e.1) entry entries some) (small entry.1 (All-head (λ (e : ℕ × X). is_block e.1) entry entries each)))) in
      let more = blocks_of_walk entry.0 k r entries lawful up.1 (All-tail (λ (e : ℕ × X). e.0 < k) entry entries before)
      (All-tail (λ (e : ℕ × X). is_block e.1) entry entries each) (All-tail (λ (e : ℕ × X). 0 < number e.1) entry entries some) (λ _. below) in
      omega (arith, here, more)

-- ---- the making

each_some : {X : Type 0} (number : X → ℕ) (k : ℕ) (xs : List X) → All (λ entry. 0 < number entry.1) (nonzero_from number k xs)
each_some number k [] = All-nil (λ entry. 0 < number entry.1)
each_some {X = X} number k (x ∷ xs) =
    let rest = each_some number (k + 1) xs in
    cond_both (number x == 0) (nonzero_from number (k + 1) xs) ((k, x) ∷ nonzero_from number (k + 1) xs) (All (λ (entry : ℕ × X). 0 < number entry.1))
    (λ _. rest)
    (λ some. let other = eqb-false (number x) 0 some in All-cons (λ (entry : ℕ × X). 0 < number entry.1) (k, x) _ (omega (arith, other)) rest)

-- What was made and cut: `front` and `back` were in hand of a walk from `from` on, over blocks of which the last is that of `back`.
pub record IsPart {X : Type 0} (w : ℕ) (number : X → ℕ) (is_block : X → Type 0) (values : List Bool) (from : ℕ)
    (front back : Hand X) (s : Nonzeros X) (end : ℕ) (block : X) (t : Nonzeros X) (new : Hand X) : Type 0 where
  pub begins : BeginsFrom w number is_block values from front s back
  pub used_up : number back.block ≡ 0
  pub start : s.left ≡ nonzero_from number (front.index / w + 1) (drop (front.index / w + 1) s.blocks)
  pub last : back.index / w ≡ blocks_for w (length values) - 1
  pub at : new.index / w ≡ min (max ((end - 1) / w) (front.index / w)) (back.index / w)
  pub whole : new.index ≡ new.index / w * w
  pub cut : CutsAt w number (new.index / w) (end - new.index) s new.block t
  pub at_back : is_block new.block
  pub in_hand : is_block block
  pub digit : (j : ℕ) → j < w → is_one (number block) j ≡ (nat_lt j (end - front.index) && is_one (number front.block) j)
  pub pulled : s.summary_pulls ≡ 1
  pub few : t.summary_left ≤ blocks_for w (new.index / w) - 1 - front.index / w / w

module _ {X : Type 0} (w : ℕ) (number : X → ℕ) (is_block : X → Type 0) (pos : 0 < w) (small : (x : X) → is_block x → number x < 2 ^ w) where
  is_cut_by : (values : List Bool) (from end : ℕ) (front back new : Hand X) (s t : Nonzeros X) (block : X)
      → IsPart w number is_block values from front back s end block t new → IsCutBy w number is_block front back s end block t new
  is_cut_by values from end front back new s t block is =
      let apart = ends_apart w number is_block pos front back s is.begins.walk in
      let k = new.index / w in
      let last = (end - 1) / w in
      let split = div-add-mod' (end - 1) w in
      let rest = mod-lt (end - 1) pos in
      record {
        walk = is.begins.walk;
        used_up = is.used_up;
        some = subst (All (λ (entry : ℕ × X). 0 < number entry.1)) (sym is.start) (each_some number (front.index / w + 1) _);
        cut = is.cut;
        whole = is.whole;
        at_back = is.at_back;
        in_hand = is.in_hand;
        digit = is.digit;
        from = omega (arith, is.at, apart);
        to = omega (arith, is.at);
        before = λ on. let product = mul-le-mul_right w (let e : k ≤ last = omega (arith, is.at, on) in e) in omega (arith, product, split, is.whole);
        after = λ on. let product = mul-le-mul_right w (let e : last ≤ k = omega (arith, is.at, on) in e) in omega (arith, product, split, rest, is.whole);
      }

  pub begins_part : (values : List Bool) (from end : ℕ) (front back new : Hand X) (s t : Nonzeros X) (block : X) → IsPart w number is_block values from front back s end block t new
      → IsSparseWalk w number is_block (record { block = block; index = front.index }) t new
      × IsAtStartOfPart w values from end (seen_of w number (record { block = block; index = front.index }) t new)
  unfolding IsAtBlockOf IsAtBlocksOf
  begins_part values from end front back new s t block part =
      let is = is_cut_by values from end front back new s t block part in
      let walk = cut_walk w number is_block pos small front back new s t end block is in
      let start = part.begins.start in
      let first = front.index / w in
      let k = new.index / w in
      let left : left_between w number (record { block = block; index = front.index }) t.left new ≡ those_in_range (elements values) from end =
      cut_left w number is_block pos small front back new s t end block is ∙ ap (λ xs. those_below xs end) start.left ∙ both_tests (elements values) from end (IsAscending-elements values) in
      let ones = indexes w front.index (number block) [] in
      let next : front.index + w ≡ (first + 1) * w = omega (arith, is.walk.whole) in
      let count : length (blocks_past w first (left_between w number (record { block = block; index = front.index }) t.left new)) ≡ length t.left + min 1 (number new.block) =
      ap length (passed_in_block w first ones (indexes_of w number t.left ++ indexes w new.index (number new.block) []) pos
      (subst (λ n. All (λ i. i < n) ones) next (indexes-below w front.index (number block))))
      ∙ ap (λ p. length (blocks_past w first (indexes_of w number t.left ++ indexes w p (number new.block) []))) is.whole
      ∙ blocks_of_walk w number is_block pos small first k new.block t.left is.at_back walk.past is.cut.before walk.each
      (front_some is) (entry_in w number is_block pos small front back new s t end block is) in
      let at_first : first ≡ min (from / w) (blocks_for w (length values) - 1) = ap (λ n. n / w) start.at.index ∙ whole_index w (min (from / w) (blocks_for w (length values) - 1)) pos in (
        walk,
        record {
          left = left;
          count_fits = walk.count_fits;
          at = record {
            pulls = let pulled = ap (λ xs. length (blocks_past w first xs)) left in omega (arith, is.cut.counted, start.at.pulls, count, pulled);
            at_most = omega (arith, is.cut.counted, start.at.pulls);
            index = start.at.index;
            blocks = omega (arith, part.at, part.last, at_first);
            summary = let last : first + (k - first) ≡ k = omega (arith, part.at, part.last, at_first) in rw last (omega (arith, is.cut.summary, part.pulled, part.few));
          };
        },
      )
    where
      front_some : IsCutBy w number is_block front back s end block t new → All (λ (entry : ℕ × X). 0 < number entry.1) t.left
      front_some is = each_front (λ (entry : ℕ × X). 0 < number entry.1) t.left (is.cut.at ++ is.cut.past) (subst (All (λ (entry : ℕ × X). 0 < number entry.1)) is.cut.split is.some)
