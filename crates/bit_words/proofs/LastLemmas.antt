-- The last block that a walk has left, and what is left without it.
use Rattle.std.proofs.Common.{◌≡◌, ℕ, suc, ◌+◌, ◌-◌, ◌*◌, ◌/◌, ◌%◌, ◌^◌, ◌<◌, ◌≤◌, Bool, true, false, nat_lt, ◌&&◌, if◌then◌else◌, ◌==◌, List, [], ◌∷◌, ◌++◌, map, length, take, Option, Some}
use Rattle.std.proofs.Common.{None, refl, ap, sym, ◌∙◌, arith, min, mod-lt, div-add-mod', lt_of_mul-lt-mul_right}
use Rattle.std.{proofs.{lemmas.{Bool.Decides.nat_tests, List.length-map}, Math.Nat.div-lt_iff_lt-mul}, specs.Option.unwrap_or}
use Rattle.bit_blocks.specs.{Bits.blocks_for, Digits.is_one, Highest.IsHighest, Searches.FindsBefore, Storage.{value_at, is_used}}
use Rattle.bit_words.specs.Pending.{FindsLast, FindsLastPending, first_true, IsInHand, IsLastPending, IsPending, IsStoredFrom, left_from, next_at}
use Rattle.bit_blocks.proofs.{BitsLemmas.{blocks_for-enough, blocks_for-least, blocks_for-past}, Masks.is_one-bit, StorageLemmas.value_at-past}
use Rattle.bit_words.proofs.{NextAtLemmas.{at_first, before_first, first_most}, PendingLemmas.{left-covered, left-ended, left-last, left-passed, stored_kept}}

-- ---- the last block goes

-- where it was the first of its chunk, so does what the summary has of that
pub chunk_ended : (w count : ℕ) → 0 < w → w ≤ count → count % w ≡ 0 → count / w - 1 ≡ blocks_for w (count - w)
chunk_ended w count pos past begins =
    let all = blocks_for-past w 1 count pos (omega (arith, past, pos)) in
    let whole : blocks_for w count ≡ count / w = ap (λ r. count / w + min 1 r) begins ∙ omega arith in
    let same = ap (blocks_for w) (let e : count - 1 * w ≡ count - w = omega arith in e) in
    omega (arith, all, whole, same)

-- and else not
pub chunk_goes_on : (w count : ℕ) → 0 < w → w ≤ count → 0 < count % w → blocks_for w (count + 1 - w) ≤ blocks_for w (count - w)
chunk_goes_on w count pos past within =
    let all = blocks_for-past w 1 count pos (omega (arith, past, pos)) in
    let whole : blocks_for w count ≡ count / w + 1 = let some : min 1 (count % w) ≡ 1 = omega (arith, within) in ap (λ m. count / w + m) some in
    let same = ap (blocks_for w) (let e : count - 1 * w ≡ count - w = omega arith in e) in
    let least : blocks_for w (count - w) ≡ count / w = omega (arith, all, whole, same) in
    let product = ap (λ n. n * w) least in
    blocks_for-least w (count + 1 - w) (blocks_for w (count - w)) pos (omega (arith, product, div-add-mod' count w, mod-lt count pos))

-- ---- the search by a summary

-- a search of the blocks from `start` on
pub last_from_start : {X : Type 0} (number : X → ℕ) (xs : List X) (start end : ℕ) (r : Option ℕ) (k : ℕ) → FindsBefore (λ j. is_used (map number xs) (start + j)) (end - start) r
    → r ≡ Some k → IsLastPending number xs start end (start + k)
last_from_start number xs start end None k found is = absurd (let e = is in cc)
last_from_start number xs start end (Some j) k found is = let same : k ≡ j = (let e = is in cc) in rw same (record {
  reached = omega arith;
  before = omega (arith, found.before);
  between = λ i past below.
      let e : start + (i - start) ≡ i = omega (arith, past) in
      ap (is_used (map number xs)) (sym e) ∙ found.between (i - start) (omega (arith, past)) (omega (arith, past, below));
})

pub none_from_start : {X : Type 0} (number : X → ℕ) (xs : List X) (start end : ℕ) (r : Option ℕ) → FindsBefore (λ j. is_used (map number xs) (start + j)) (end - start) r → r ≡ None
    → (j : ℕ) → start ≤ j → j < end → is_used (map number xs) j ≡ false
none_from_start number xs start end None found is = λ j from below.
    let e : start + (j - start) ≡ j = omega (arith, from) in
    ap (is_used (map number xs)) (sym e) ∙ found (j - start) (omega (arith, from, below))
none_from_start number xs start end (Some k) found is = absurd (let e = is in cc)

module _ {X : Type 0} (w : ℕ) (number : X → ℕ) (is_block : X → Type 0) where
  -- a place at which what is stored of a summary is true is a `usize`
  pub stored_fits : (start end i : ℕ) (xs summary : List X) → 0 < w → w ≤ start → end ≤ length xs → length xs < 2 ^ 64 → IsStoredFrom w number is_block start end xs summary
      → value_at w (map number summary) i ≡ true → i < 2 ^ 64
  stored_fits start end i xs summary pos chunk ends fits is one =
      let here : i / w < length summary = grind (arith, value_at-past w (map number summary) i, length-map summary number) in
      let below : i < length summary * w = (div-lt_iff_lt-mul pos).0 here in
      let few = is.no_more (omega (arith, here)) in
      omega (arith, below, few, chunk, ends, fits)

  -- no more is stored than is about the blocks that are left
  pub stored_few : (start end : ℕ) (xs summary : List X) → 0 < w → start ≤ end → IsStoredFrom w number is_block start end xs summary → length summary ≤ blocks_for w (end - start)
  stored_few start end xs summary pos within is =
      let below : length summary < suc (blocks_for w (end - start)) = lt_of_mul-lt-mul_right w (grind (arith, is.no_more, blocks_for-enough w (end - start) pos, within, pos)) in
      omega (arith, below)

  -- ---- the block of the summary in hand

  pub first_reached : (f : ℕ → Bool) (n i : ℕ) → f i ≡ true → first_true f n ≤ i
  first_reached f n i here = grind (arith, before_first f n i)

  pub last_in_hand : (index end i : ℕ) (pending : X) (xs : List X) → IsInHand w number is_block index end pending xs → IsHighest (number pending) i → i < w
      → ((j : ℕ) → index + w ≤ j → j < end → is_used (map number xs) j ≡ false)
      → IsLastPending number xs (next_at w index (number pending)) end (index + i)
  last_in_hand index end i pending xs is high within past =
      let m = number pending in
      let one = is_one-bit 1 m i high.one in
      record {
        reached = let first = first_reached (is_one m) w i one in omega (arith, first);
        before = is.inside i within one;
        between = λ j over below.
            let d = j - index in
            let e : index + d ≡ j = omega (arith, over) in
            let none = is_one-bit 0 m d (high.zeros d (omega (arith, over))) in
            let covered = λ (short : d < w). is.covers i d (omega (arith, over)) short one (omega (arith, e, below)) in
            grind (arith, e, none, covered, past j);
      }

  -- ---- what is left before the block that was found

  pub IsInHand-cut_at : (index end to : ℕ) (pending rest : X) (xs : List X) → IsInHand w number is_block index end pending xs → index ≤ to → to ≤ end → is_block rest
      → ((j : ℕ) → j < w → is_one (number rest) j ≡ (nat_lt j (to - index) && is_one (number pending) j)) → IsInHand w number is_block index to rest xs
  IsInHand-cut_at index end to pending rest xs is from before lawful cut = record {
    each = is.each;
    of_block = lawful;
    fits = is.fits;
    ends = omega (arith, before, is.ends);
    within = from;
    inside = λ j within one. grind (arith, nat_tests, cut j within);
    covers = λ i j after within one below used.
        grind (arith, nat_tests, cut i (omega (arith, after, within)), cut j within, is.covers i j after within, used);
  }

  pub left-cut_at : (index end to : ℕ) (pending rest : X) (xs : List X) → IsInHand w number is_block index end pending xs → to ≤ end
      → ((j : ℕ) → j < w → is_one (number rest) j ≡ (nat_lt j (to - index) && is_one (number pending) j))
      → left_from number (next_at w index (number rest)) to xs ≡ left_from number (next_at w index (number pending)) to xs
  left-cut_at index end to pending rest xs is before cut =
      let m = number pending in
      let first = first_true (is_one m) w in
      let most = first_most (is_one m) w in
      left-covered w number is_block index (index + first) to (number rest) xs (omega arith) (omega (arith, most))
      (λ j below. let none = before_first (is_one m) w j (omega (arith, below)) in grind (arith, none, cut j (omega (arith, below, most))))
      (λ j within from short used.
      let here = at_first (is_one m) w (omega (arith, from, within)) in
      let covered = λ (after : first < j). is.covers first j after within here (omega (arith, short, before)) used in
      let same = λ (e : first ≡ j). ap (is_one m) (sym e) ∙ here in
      grind (arith, nat_tests, cut j within, covered, same))

  -- What a walk has in hand, and what of the summary, before the block at `to`
  pub record IsCutAt (index end to : ℕ) (pending rest : X) (xs summary kept : List X) : Type 0 where
    pub before : IsPending w number is_block index end pending xs summary
    pub of_block : is_block rest
    pub cut : (j : ℕ) → j < w → is_one (number rest) j ≡ (nat_lt j (to - index) && is_one (number pending) j)
    pub left : kept ≡ take (blocks_for w (to - (index + w))) summary

  pub IsPending-cut_at : (index end to : ℕ) (pending rest : X) (xs summary left : List X) → 0 < w → index ≤ to → to ≤ end → IsCutAt index end to pending rest xs summary left
      → IsPending w number is_block index to rest xs left
  IsPending-cut_at index end to pending rest xs summary left pos from before is = record {
    hand = IsInHand-cut_at index end to pending rest xs is.before.hand from before is.of_block is.cut;
    stored = stored_kept w number is_block (index + w) end to (blocks_for w (to - (index + w))) xs summary left pos is.before.stored before refl is.left;
  }

  -- the block that was found is within what is left
  pub found_within : (index end m : ℕ) (found : Option ℕ) (xs : List X) → index ≤ end → FindsLastPending number xs (next_at w index m) end found
      → (index ≤ unwrap_or found index) × (unwrap_or found index ≤ end)
  found_within index end m None xs within finds = (omega arith, within)
  found_within index end m (Some k) xs within finds = (omega (arith, finds.reached), omega (arith, finds.before))

  some_is : {A : Type 0} {x : A} → Some x ≡ None → ⊥
  some_is none = absurd (let e = none in cc)

  pub FindsLast-cut_at : (index end to : ℕ) (pending rest : X) (xs summary left : List X) (found : Option ℕ) → IsCutAt index end to pending rest xs summary left → to ≡ unwrap_or found index
      → FindsLastPending number xs (next_at w index (number pending)) end found
      → FindsLast w number xs index (number pending) end found (number rest) to
  FindsLast-cut_at index end to pending rest xs summary left None is to_is none =
      let p = next_at w index (number pending) in
      record {
        inside = tt;
        item = tt;
        fewer = omega (arith, to_is, is.before.hand.within);
        ended = λ _. (
          left-passed number p (p + end) end xs (omega arith) (λ j from _ below. none j from below) ∙ left-ended number (p + end) end xs (omega arith),
          left-ended number (next_at w index (number rest)) to xs (omega (arith, to_is)),
          omega (arith, to_is),
        );
      }
  FindsLast-cut_at index end to pending rest xs summary left (Some k) is to_is last =
      let p = next_at w index (number pending) in
      let same = left-cut_at index end k pending rest xs is.before.hand (omega (arith, last.before)) (rw to_is at is.cut) in
      rw to_is (record {
        inside = (last.before, refl);
        item = λ x at.
            left-last number p end k x xs last is.before.hand.ends at
            ∙ ap (λ ys. if number x == 0 then ys else ys ++ (k, x) ∷ []) (sym same);
        fewer = omega (arith, last.before);
        ended = λ none. absurd (some_is none);
      })

  -- ---- the last block, where that is past the block in hand

  without_last : (index end to : ℕ) (pending : X) (xs summary kept : List X) → index + w < end → to ≡ end - 1 → IsPending w number is_block index end pending xs summary
      → kept ≡ take (blocks_for w (to - (index + w))) summary → IsCutAt index end to pending pending xs summary kept
  without_last index end to pending xs summary kept past to_is is kept_is = record {
    before = is;
    of_block = is.hand.of_block;
    cut = λ j within. let below : nat_lt j (to - index) ≡ true = grind (arith, nat_tests, within, to_is, past) in sym (ap (λ b. b && is_one (number pending) j) below);
    left = kept_is;
  }

  pub IsPending-last : (index end to : ℕ) (pending : X) (xs summary kept : List X) → 0 < w → index + w < end → to ≡ end - 1 → IsPending w number is_block index end pending xs summary
      → kept ≡ take (blocks_for w (to - (index + w))) summary → IsPending w number is_block index to pending xs kept
  IsPending-last index end to pending xs summary kept pos past to_is is kept_is =
      IsPending-cut_at index end to pending pending xs summary kept pos (omega (arith, to_is, past)) (omega (arith, to_is)) (without_last index end to pending xs summary kept past to_is is kept_is)

  pub FindsLast-last : (index end to : ℕ) (pending : X) (xs summary kept : List X) → index + w < end → to ≡ end - 1 → IsPending w number is_block index end pending xs summary
      → kept ≡ take (blocks_for w (to - (index + w))) summary → FindsLast w number xs index (number pending) end (Some to) (number pending) to
  FindsLast-last index end to pending xs summary kept past to_is is kept_is =
      FindsLast-cut_at index end to pending pending xs summary kept (Some to) (without_last index end to pending xs summary kept past to_is is kept_is) refl (record {
        reached = let most = first_most (is_one (number pending)) w in omega (arith, most, past, to_is);
        before = omega (arith, past, to_is);
        between = λ j over below. absurd (omega (arith, over, below, to_is));
      })
