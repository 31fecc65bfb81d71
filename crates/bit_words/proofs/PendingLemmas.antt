-- The walk over the blocks that are not 0, by the pending bits of a summary.
use Rattle.std.proofs.Common.{◌≡◌, ◌≢◌, ℕ, zero, suc, ◌+◌, ◌-◌, ◌*◌, ◌/◌, ◌%◌, ◌^◌, ◌<◌, ◌≤◌, true, false, not, leb, nat_lt, ◌&&◌, if◌then◌else◌, ◌==◌, List, [], ◌∷◌, ◌++◌, map, drop, take}
use Rattle.std.proofs.Common.{length, slice_get, Some, get_or, get_or-take, All, refl, sym, ap, subst, ◌∙◌, ⊎_elim, arith, max, min, mul-le-mul_right, div-mul-le_self, length-take}
use Rattle.std.proofs.lemmas.{Bool.{true≢false, cases_lt, cond_both, Decides.nat_tests}, Option.get_or_from_slice_get}
use Rattle.std.proofs.lemmas.List.{append-nil, drop_more, drop_all, drop-append-le, drop-map, get_or_past, length-drop, length-map, length-take-le, take_all, take-append-drop, take-map}
use Rattle.std.proofs.lemmas.{List.{take-take, Elements.{All-drop, All-take}}, Grind.div_ceil_times}
use Rattle.std.proofs.Math.{Nat.div-lt_iff_lt-mul, Seq.drop-drop}
use Rattle.bit_blocks.specs.{Bits.blocks_for, Digits.is_one, Lowest.{IsLowest, IsCleared}, Storage.{value_at, is_used}}
use Rattle.bit_words.specs.{Nonzero.nonzero_from, Pending.{CoversUsed, IsInHand, IsLastPending, IsStoredFrom, left_from, next_at}}
use Rattle.bit_blocks.proofs.{BitsLemmas.{blocks_for-le, blocks_for-least, blocks_for-past}, Masks.{is_one-bit, is_one-zero}}
use Rattle.bit_words.{specs.Summary.{short_count, IsStoredSummary}, proofs.NextAtLemmas.{before_first, first_least, first_most}}
use Rattle.bit_blocks.proofs.{StorageLemmas.{value_at-is, value_at-index}, ZeroLemmas.{dropped, value_at-drop}}
use Rattle.bit_words.proofs.SummaryLemmas.{stored_each, stored_enough}

-- ---- blocks that are 0 are passed

module _ {X : Type 0} (number : X → ℕ) where
  none_first : (k n : ℕ) (xs : List X) → ((j : ℕ) → j < n → is_used (map number xs) j ≡ false) → nonzero_from number k xs ≡ nonzero_from number (k + n) (drop n xs)
  none_first k zero xs none = ap (λ j. nonzero_from number j xs) (let e : k ≡ k + zero = omega arith in e)
  none_first k (suc n) [] none = refl
  none_first k (suc n) (x ∷ xs) none = grind (arith, nat_tests, none_first (k + 1) n xs (λ j within. none (suc j) (omega (arith, within))), none 0)

  -- what is before block `end` is not 0 where it is not 0 at all
  front_used : (end k : ℕ) (xs : List X) → (k < end → is_used (map number xs) k ≡ false) → is_used (map number (take end xs)) k ≡ false
  front_used end k xs none =
      let read = λ (within : k < end). ap (λ ms. get_or ms k 0) (sym (take-map number end xs)) ∙ get_or-take end (map number xs) k 0 within in
      grind (arith, nat_tests, none, read, get_or_past (map number (take end xs)) k 0, length-map (take end xs) number, length-take end xs)

  pub left-passed : (a b end : ℕ) (xs : List X) → a ≤ b → ((k : ℕ) → a ≤ k → k < b → k < end → is_used (map number xs) k ≡ false) → left_from number a end xs ≡ left_from number b end xs
  left-passed a b end xs on none =
      let ys = take end xs in
      let e : a + (b - a) ≡ b = omega (arith, on) in
      none_first a (b - a) (drop a ys) (λ j within. ap (λ m. not (m == 0)) (dropped number a j ys) ∙ front_used end (a + j) xs (none (a + j) (omega arith) (omega (arith, within))))
      ∙ ap (nonzero_from number (a + (b - a))) (drop-drop (b - a) a ys)
      ∙ ap (λ p. left_from number p end xs) e

  -- nothing is left from the end on
  pub left-ended : (p end : ℕ) (xs : List X) → end ≤ p → left_from number p end xs ≡ []
  left-ended p end xs past = ap (nonzero_from number p) (drop_all p (take end xs) (let most = length-take end xs in omega (arith, most, past)))

  -- a block that comes, or is 0
  pub left-here : (k end : ℕ) (x : X) (xs : List X) → k < end → end ≤ length xs → slice_get xs k ≡ Some x
      → left_from number k end xs ≡ (if number x == 0 then left_from number (k + 1) end xs else (k, x) ∷ left_from number (k + 1) end xs)
  left-here k end x xs before to at =
      ap (nonzero_from number k)
      (drop_more (take end xs) k x (let most = length-take end xs in omega (arith, most, before, to))
      ∙ ap (λ y. y ∷ drop (k + 1) (take end xs)) (get_or-take end xs k x before ∙ get_or_from_slice_get xs k x x at))

  -- those before a block, and those from it on
  nonzero-append : (k : ℕ) (xs ys : List X) → nonzero_from number k (xs ++ ys) ≡ nonzero_from number k xs ++ nonzero_from number (k + length xs) ys
  nonzero-append k [] ys = ap (λ j. nonzero_from number j ys) (let e : k ≡ k + 0 = omega arith in e)
  nonzero-append k (x ∷ xs) ys = grind (arith, nat_tests, nonzero-append (k + 1) xs ys)

  pub left-split : (p k end : ℕ) (xs : List X) → p ≤ k → k ≤ end → end ≤ length xs → left_from number p end xs ≡ left_from number p k xs ++ left_from number k end xs
  left-split p k end xs from before to =
      let front = drop p (take k xs) in
      let back = drop k (take end xs) in
      let count : length (take k xs) ≡ k = length-take-le k xs (omega (arith, before, to)) in
      let at : p + length front ≡ k = omega (arith, length-drop p (take k xs), count, from) in
      let whole : take end xs ≡ take k xs ++ back = sym (take-append-drop k (take end xs)) ∙ ap (λ ys. ys ++ back) (take-take k end xs before) in
      ap (λ ys. nonzero_from number p (drop p ys)) whole
      ∙ ap (nonzero_from number p) (drop-append-le p (take k xs) back (omega (arith, count, from)))
      ∙ nonzero-append p front back
      ∙ ap (λ j. nonzero_from number p front ++ nonzero_from number j back) at

  -- the last block before the end that may be not 0 comes last, or is 0
  pub left-last : (p end k : ℕ) (x : X) (xs : List X) → IsLastPending number xs p end k → end ≤ length xs → slice_get xs k ≡ Some x
      → left_from number p end xs ≡ (if number x == 0 then left_from number p k xs else left_from number p k xs ++ (k, x) ∷ [])
  left-last p end k x xs last to at =
      let past : left_from number (k + 1) end xs ≡ [] =
      left-passed (k + 1) (k + 1 + end) end xs (omega arith) (λ j over _ before. last.between j (omega (arith, over)) before) ∙ left-ended (k + 1 + end) end xs (omega arith) in
      let here : left_from number k end xs ≡ (if number x == 0 then [] else (k, x) ∷ []) =
      left-here k end x xs last.before to at ∙ ap (λ ys. if number x == 0 then ys else (k, x) ∷ ys) past in
      left-split p k end xs last.reached (omega (arith, last.before)) to
      ∙ ap (λ ys. left_from number p k xs ++ ys) here
      ∙ cond_both (number x == 0) [] ((k, x) ∷ []) (λ ys. left_from number p k xs ++ ys ≡ (if number x == 0 then left_from number p k xs else left_from number p k xs ++ (k, x) ∷ []))
      (λ none. append-nil (left_from number p k xs) ∙ ap (λ b. if b then left_from number p k xs else left_from number p k xs ++ (k, x) ∷ []) (sym none))
      (λ some. ap (λ b. if b then left_from number p k xs else left_from number p k xs ++ (k, x) ∷ []) (sym some))

-- ---- the block of the summary in hand

module _ {X : Type 0} (w : ℕ) (number : X → ℕ) (is_block : X → Type 0) where
  -- The digits of m are about the blocks from `start` on, and have none of a block before the one at `from`.
  pub left-covered : (start from end m : ℕ) (xs : List X) → start ≤ from → from ≤ start + w → ((j : ℕ) → j < from - start → is_one m j ≡ false)
      → ((j : ℕ) → j < w → from ≤ start + j → start + j < end → is_used (map number xs) (start + j) ≡ true → is_one m j ≡ true)
      → left_from number (next_at w start m) end xs ≡ left_from number from end xs
  left-covered start from end m xs on to none covers =
      let least = first_least (is_one m) w (from - start) (omega (arith, to)) none in
      let most = first_most (is_one m) w in
      sym (left-passed number from (next_at w start m) end xs (omega (arith, least, on)) (λ k reached below before.
      let e : start + (k - start) ≡ k = omega (arith, reached, on) in
      let unset = before_first (is_one m) w (k - start) (omega (arith, below, reached, on)) in
      grind (arith, e, unset, covers (k - start) (omega (arith, below, most, reached, on)) (omega (arith, reached, on)) (omega (arith, before, reached, on)))))

  -- the lowest 1 is taken
  pub left-taken : (index end i r : ℕ) (pending : X) (xs : List X) → IsInHand w number is_block index end pending xs → IsLowest (number pending) i → i < w → IsCleared w (number pending) i r
      → (index + i < next_at w index r) × (left_from number (next_at w index r) end xs ≡ left_from number (index + i + 1) end xs)
  left-taken index end i r pending xs is low within cleared =
      let m = number pending in
      let none : (j : ℕ) → j < i + 1 → is_one r j ≡ false = λ j to. grind (arith, nat_tests, cleared.kept j, cleared.cleared, low.zeros j) in
      let least = first_least (is_one r) w (i + 1) (omega (arith, within)) none in (
        omega (arith, least),
        left-covered index (index + i + 1) end r xs (omega arith) (omega (arith, within)) (λ j below. none j (omega (arith, below))) (λ j to past before used.
            ap (λ b. b == 1) (cleared.kept j to (λ e. omega (arith, e, past))) ∙ is.covers i j (omega (arith, past)) to (is_one-bit 1 m i low.one) before used),
      )

  pub IsInHand-taken : (index end i : ℕ) (pending rest : X) (xs : List X) → IsInHand w number is_block index end pending xs → is_block rest → IsLowest (number pending) i
      → IsCleared w (number pending) i (number rest) → IsInHand w number is_block index end rest xs
  IsInHand-taken index end i pending rest xs is block low cleared =
      let kept : (k : ℕ) → k < w → k ≢ i → is_one (number rest) k ≡ is_one (number pending) k = λ k below other. ap (λ b. b == 1) (cleared.kept k below other) in
      let was : (k : ℕ) → k < w → is_one (number rest) k ≡ true → is_one
      (number pending) k ≡ true × i < k = λ k within one. grind (arith, nat_tests, cleared.kept k within, cleared.cleared, low.zeros k) in
      record {
        each = is.each;
        of_block = block;
        fits = is.fits;
        ends = is.ends;
        within = is.within;
        inside = λ j within one. is.inside j within (was j within one).0;
        covers = λ a j after within one before used.
            let (one_before, past) = was a (omega (arith, after, within)) one in
            kept j within (λ e. omega (arith, e, after, past)) ∙ is.covers a j after within one_before before used;
      }

  -- a used up block is about any blocks
  pub IsInHand-zero : (index end : ℕ) (pending : X) (xs : List X) → All is_block xs → length xs < 2 ^ 64 → is_block pending → number pending ≡ 0 → index ≤ end → end ≤ length xs
      → IsInHand w number is_block index end pending xs
  IsInHand-zero index end pending xs each fits block none within ends =
      let nothing : (j : ℕ) → is_one (number pending) j ≡ true → ⊥ = λ j one. true≢false (sym one ∙ ap (λ n. is_one n j) none ∙ is_one-zero j) in
      record {
        each = each;
        of_block = block;
        fits = fits;
        ends = ends;
        within = within;
        inside = λ j to one. absurd (nothing j one);
        covers = λ i j after to one before used. absurd (nothing i one);
      }

  -- ---- what is stored of the summary

  pub long_by_stored : (xs summary : List X) → (length xs ≤ short_count w → summary ≡ []) → 0 < length summary → short_count w < length xs
  long_by_stored xs summary short some = grind (arith, short)

  pub stored_from_all : (xs summary : List X) → 0 < w → IsStoredSummary w number is_block xs summary → IsStoredFrom w number is_block 0 (length xs) xs summary
  stored_from_all xs summary pos keeps = record {
    each = stored_each w number is_block xs summary keeps;
    short = keeps.short;
    enough = λ long. let enough = stored_enough w number is_block xs summary pos keeps long in omega (arith, enough);
    no_more = λ some. grind (arith, pos, (keeps.long (long_by_stored xs summary keeps.short some)).packed.count, div-mul-le_self (length xs) w);
    digit = λ long k before. (keeps.long long).digit k ∙ ap (is_used (map number xs)) (let e : k ≡ 0 + k = omega arith in e);
  }

  -- its first blocks are pulled
  pub stored_past : (n start to end : ℕ) (xs summary left : List X) → 0 < w → to ≡ start + n * w → IsStoredFrom w number is_block start end xs summary
      → (short_count w < length xs → n ≤ length summary) → left ≡ drop n summary → IsStoredFrom w number is_block to end xs left
  stored_past n start to end xs summary left pos at is there left_is =
      let count : length left ≡ length summary - n = ap length left_is ∙ length-drop n summary in
      let whole : n ≤ length summary → length summary * w ≡ n * w + length left * w = λ within.
      ap (λ k. k * w) (let e : length summary ≡ n + length left = omega (arith, count, within) in e) ∙ omega arith in
      record {
        each = subst (All is_block) (sym left_is) (All-drop is_block n summary is.each);
        short = λ few. left_is ∙ ap (drop n) (is.short few) ∙ drop_all n [] (omega arith);
        enough = λ long. omega (arith, at, is.enough long, whole (there long));
        no_more = λ some.
            let within : n ≤ length summary = omega (arith, some, count) in
            omega (arith, at, is.no_more (omega (arith, some, count)), whole within);
        digit = λ long k before.
            ap (λ ys. value_at w (map number ys) k) left_is
            ∙ ap (λ ms. value_at w ms k) (sym (drop-map number n summary))
            ∙ value_at-drop w n (map number summary) k pos
            ∙ is.digit long (n * w + k) (omega (arith, at, before))
            ∙ ap (is_used (map number xs)) (let e : start + (n * w + k) ≡ to + k = omega (arith, at) in e);
      }

  pub count_by : (n start to count : ℕ) → 0 < w → to ≡ start + n * w → n * w < count - start + w → blocks_for w (count - start) ≡ n + blocks_for w (count - to)
  count_by n start to count pos at within = grind (arith, blocks_for-past w n (count - start) pos within)

  -- they are so many of those that were to come
  pub count_past : (n start to end : ℕ) (xs summary : List X) → 0 < w → to ≡ start + n * w → IsStoredFrom w number is_block start end xs summary → n ≤ length summary
      → blocks_for w (end - start) ≡ n + blocks_for w (end - to)
  count_past n start to end xs summary pos at is there = count_by n start to end pos at (grind (arith, pos, is.no_more, mul-le-mul_right w there))

  -- blocks of it that are 0 are about blocks that are
  pub zeros_passed : (n start to end : ℕ) (xs summary : List X) → 0 < w → to ≡ start + n * w → IsStoredFrom w number is_block start end xs summary → n ≤ length summary
      → ((k : ℕ) → k < n → get_or (map number summary) k 0 ≡ 0) → left_from number start end xs ≡ left_from number to end xs
  zeros_passed n start to end xs summary pos at is there zeros = left-passed number start to end xs (omega (arith, at)) (λ k reached below before.
      let j = k - start in
      let chunk : j / w < n = (div-lt_iff_lt-mul pos).1 (omega (arith, at, below, reached)) in
      ap (is_used (map number xs)) (let e : k ≡ start + j = omega (arith, reached) in e)
      ∙ sym (is.digit (long_by_stored xs summary is.short (omega (arith, chunk, there))) j (omega (arith, reached, before)))
      ∙ value_at-is w (map number summary) j
      ∙ ap (λ m. is_one m (j % w)) (zeros (j / w) chunk)
      ∙ is_one-zero (j % w))

  -- none is stored where no blocks are left
  pub stored_ended : (start end : ℕ) (xs summary : List X) → IsStoredFrom w number is_block start end xs summary → end ≤ start → summary ≡ []
  stored_ended start end xs [] is past = refl
  stored_ended start end xs (next ∷ rest) is past = absurd (let few = is.no_more (omega arith) in omega (arith, few, past))

  -- some are stored of many blocks
  pub stored_some : (start end : ℕ) (xs summary : List X) → IsStoredFrom w number is_block start end xs summary → start < end → short_count w < length xs → 1 ≤ length summary
  stored_some start end xs summary is more long = grind (arith, is.enough long)

  -- only so many are kept as say of the blocks before a block
  pub stored_kept : (start end to count : ℕ) (xs summary left : List X) → 0 < w → IsStoredFrom w number is_block start end xs summary → to ≤ end → count ≡ blocks_for w (to - start)
      → left ≡ take count summary → IsStoredFrom w number is_block start to xs left
  stored_kept start end to count xs summary left pos is before count_is left_is =
      let kept : length left ≡ min count (length summary) = ap length left_is ∙ length-take count summary in
      let most = mul-le-mul_right w (let e : length left ≤ count = omega (arith, kept) in e) in
      let needed = div_ceil_times (to - start) w pos in
      let product = ap (λ n. n * w) count_is in
      record {
        each = subst (All is_block) (sym left_is) (All-take is_block count summary is.each);
        short = λ few. left_is ∙ ap (take count) (is.short few) ∙ take_all count [] (omega arith);
        enough = λ long. grind (arith, kept, is.enough long, needed.0, product);
        no_more = λ some. grind (arith, most, kept, needed.1, product, blocks_for-least w (to - start) 0 pos);
        digit = λ long k within.
            let here : k / w < count = (div-lt_iff_lt-mul pos).1 (omega (arith, needed.0, product, within)) in
            ap (λ ys. value_at w (map number ys) k) left_is
            ∙ value_at-is w (map number (take count summary)) k
            ∙ ap (λ m. is_one m (k % w)) (ap (λ ms. get_or ms (k / w) 0) (sym (take-map number count summary)) ∙ get_or-take count (map number summary) (k / w) 0 here)
            ∙ sym (value_at-is w (map number summary) k)
            ∙ is.digit long k (omega (arith, within, before));
      }

  -- ---- digits that cover the blocks that are not 0

  -- digits that say exactly which blocks are not 0, as far as a block before which they end
  pub CoversUsed-exact : (start end m r : ℕ) (xs : List X) → start ≤ end → ((j : ℕ) → j < w → start + j < end → is_one m j ≡ is_used (map number xs) (start + j))
      → ((j : ℕ) → j < w → is_one r j ≡ (nat_lt j (end - start) && is_one m j)) → CoversUsed w number xs start end r
  CoversUsed-exact start end m r xs to digits cut = record {
    inside = λ j within one. grind (arith, nat_tests, cut j within);
    covers = λ j within before used. grind (arith, nat_tests, cut j within, digits j within before);
  }

  -- digits of as many blocks as there are
  pub CoversUsed-all : (start end m : ℕ) (xs : List X) → start ≤ end → ((j : ℕ) → j < w → is_one m j ≡ nat_lt j (end - start)) → CoversUsed w number xs start end m
  CoversUsed-all start end m xs within digits = record {
    inside = λ j to one. grind (arith, nat_tests, digits j to);
    covers = λ j to before used. grind (arith, nat_tests, digits j to);
  }

  -- the digits of the next stored block
  pub CoversUsed-stored : (start end r : ℕ) (next : X) (xs summary rest : List X) → start ≤ end → summary ≡ next ∷ rest → IsStoredFrom w number is_block start end xs summary
      → ((j : ℕ) → j < w → is_one r j ≡ (nat_lt j (end - start) && is_one (number next) j)) → CoversUsed w number xs start end r
  CoversUsed-stored start end r next xs summary rest to more is cut = CoversUsed-exact start end (number next) r xs to (λ j within before.
      let e : 0 * w + j ≡ j = omega arith in
      let said = (rw more at is.digit) (long_by_stored xs summary is.short (rw more (omega arith))) j before in
      grind (arith, e, value_at-index w (map number (next ∷ rest)) 0 j within, said)) cut

  -- ---- the making of a walk

  -- The digits past digit d, of those of the blocks from `start` on
  pub record IsCutPast (start end d : ℕ) (used pending : X) (xs : List X) : Type 0 where
    pub covers : CoversUsed w number xs start end (number used)
    pub of_block : is_block pending
    pub cut : (j : ℕ) → j < w → is_one (number pending) j ≡ (leb (d + 1) j && is_one (number used) j)

  pub IsInHand-cut : (start end d : ℕ) (used pending : X) (xs : List X) → All is_block xs → length xs < 2 ^ 64 → start ≤ end → end ≤ length xs → IsCutPast start end d used pending xs
      → IsInHand w number is_block start end pending xs
  IsInHand-cut start end d used pending xs each fits to_end ends is = record {
    each = each;
    of_block = is.of_block;
    fits = fits;
    ends = ends;
    within = to_end;
    inside = λ j to one. is.covers.inside j to (grind (arith, nat_tests, is.cut j to));
    covers = λ i j after to one before some. grind (arith, nat_tests, is.cut i (omega (arith, after, to)), is.cut j to, is.covers.covers j to before some);
  }

  pub left-cut : (start end d first : ℕ) (used pending : X) (xs : List X) → d < w → first ≡ start + d → IsCutPast start end d used pending xs
      → left_from number (next_at w start (number pending)) end xs ≡ left_from number (first + 1) end xs
  left-cut start end d first used pending xs within first_is is =
      left-covered start (first + 1) end (number pending) xs (omega (arith, first_is)) (omega (arith, first_is, within))
      (λ j below. is.cut j (omega (arith, below, first_is, within)) ∙ ap (λ b. b && is_one (number used) j) (let test : leb (d + 1) j ≡ false = grind (arith, nat_tests) in test))
      (λ j to past before some. is.cut j to ∙ ap (λ b. b && is_one (number used) j) (let test : leb (d + 1) j ≡ true = grind (arith, nat_tests) in test) ∙ is.covers.covers j to before some)

-- how many blocks of the summary are past the one for a block
pub count_from : (w q start blocks : ℕ) → 0 < w → start ≡ q * w → start ≤ blocks - 1 → blocks_for w (blocks - (start + w)) ≡ blocks_for w blocks - 1 - q
count_from w q start blocks pos at inside = grind (arith, blocks_for-past w (suc q) blocks pos, blocks_for-least w blocks 0 pos, blocks_for-least w (blocks - (start + w)) 0 pos)

-- how many are left, where a walk past a block of chunk q ends before the block at k, or at once
pub summary_left-cut : (w q k index end : ℕ) → 0 < w → index ≡ q * w → end ≤ max k index → blocks_for w (end - (index + w)) ≤ blocks_for w k - 1 - q
summary_left-cut w q k index end pos at to =
    ⊎_elim
    (λ (short : k < index + w). let none = blocks_for-least w (end - (index + w)) 0 pos (omega (arith, short, to, pos)) in omega (arith, none))
    (λ (long : index + w ≤ k).
    let fewer = blocks_for-le w (end - (index + w)) (k - (index + w)) pos (omega (arith, to, long)) in
    let left = count_from w q index k pos at (omega (arith, long, pos)) in
    omega (arith, fewer, left))
    (cases_lt k (index + w))
