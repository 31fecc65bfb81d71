-- Calls of `next` in a row, of which those within one block may be left out.
use Rattle.std.proofs.Common.{◌≡◌, ℕ, zero, suc, ◌+◌, ◌-◌, ◌*◌, ◌/◌, ◌^◌, ◌<◌, ◌≤◌, List, [], ◌∷◌, ◌++◌, drop, take, map, length, slice_get, All, Option, Some, None, count_ones, refl, sym, ap, ap₂}
use Rattle.std.proofs.{Common.{◌∙◌, subst, arith}, Math.Seq.{drop-append_seam, drop-drop}}
use Rattle.std.proofs.lemmas.List.{append_assoc, drop_all, drop-append-le, drop-map, length-append, length-drop, length-map, take-append-drop, Elements.{All-drop, All-take}}
use Rattle.std.specs.{Iterator.YieldsLast, List.last_or}
use Rattle.bit_words.specs.Nonzero.{Hand, Nonzeros, SkipsBlocks}
use Rattle.set_algebra.{specs.Sets.{AscendsFrom, IsAscending}, proofs.SetLemmas.AscendsFrom-lower}
use Rattle.bit_set.specs.{Indexes.{indexes, indexes_of, left_between, seen_of, IsSparseWalk, Passes}, Walk.{Walk, Advances, PullsBlocks, PullsBlocksAlong, Skips}}
use Rattle.bit_set.proofs.{IndexLemmas.{indexes-none, length-indexes}, LeftLemmas.ones_of_entries, PartLaws.rank_of, SparseLemmas.indexes_of-append}

-- ---- lists

ascends_drop : (n low : ℕ) (xs : List ℕ) → AscendsFrom low xs → AscendsFrom low (drop n xs)
ascends_drop zero low xs up = up
ascends_drop (suc n) low [] up = tt
ascends_drop (suc n) low (x ∷ xs) up = let from = up.0 in AscendsFrom-lower (x + 1) low (drop n xs) (omega (arith, from)) (ascends_drop n (x + 1) xs up.1)

next_of_drop : (n : ℕ) (xs rest : List ℕ) (x : ℕ) → drop n xs ≡ x ∷ rest → (slice_get xs n ≡ Some x) × (drop (suc n) xs ≡ rest)
next_of_drop zero [] rest x is = absurd (let e = is in cc)
next_of_drop zero (y ∷ ys) rest x is = (let e = is in cc, let e = is in cc)
next_of_drop (suc n) [] rest x is = absurd (let e = is in cc)
next_of_drop (suc n) (y ∷ ys) rest x is = next_of_drop n ys rest x is

none_of_drop : (d n : ℕ) (xs : List ℕ) → d ≤ n → drop d xs ≡ []
    → (slice_get xs n ≡ None) × (drop (suc n) xs ≡ []) × (length xs ≤ n)
none_of_drop zero n [] to none = grind arith
none_of_drop zero n (y ∷ ys) to none = absurd (let e = none in cc)
none_of_drop (suc d) zero xs to none = absurd (omega (arith, to))
none_of_drop (suc d) (suc n) [] to none = grind arith
none_of_drop (suc d) (suc n) (y ∷ ys) to none =
    let rest = none_of_drop d n ys (omega (arith, to)) none in
    (rest.0, rest.1, omega (arith, rest.2))

plus_one : (n : ℕ) (xs : List ℕ) → drop (n + 1) xs ≡ drop (suc n) xs
plus_one n xs = ap (λ k. drop k xs) (let e : n + 1 ≡ suc n = omega arith in e)

last_of_pushed : (o : Option ℕ) (xs : List ℕ) (x : ℕ) → last_or o (xs ++ x ∷ []) ≡ Some x
last_of_pushed o [] x = refl
last_of_pushed o (y ∷ ys) x = last_of_pushed (Some y) ys x

-- what a call of `next_back` gives is the last
pub last_given : (s t : Walk) (r : Option ℕ) → YieldsLast (λ walk. walk.left) s r t → r ≡ last_or None s.left
last_given s t None is = ap (last_or None) (sym is.0)
last_given s t (Some x) is = sym (ap (last_or None) is ∙ last_of_pushed None t.left x)

-- ---- elements that are passed

pub some_more : (w : ℕ) (s u t : Walk) (calls n : ℕ) → Passes w calls s u → Passes w n u t → Passes w (calls + n) s t
some_more w s u t calls n so more = record {
  left = more.left ∙ ap (drop n) so.left ∙ drop-drop n calls s.left;
  goes_on = omega (arith, so.goes_on, more.goes_on);
  pulled = more.pulled ∙ so.pulled;
  along = more.along ∙ so.along;
  summary = more.summary ∙ so.summary;
}

-- ---- blocks that are passed

module _ {X : Type 0} (w : ℕ) (number : X → ℕ) (is_block : X → Type 0) (small : (x : X) → is_block x → number x < 2 ^ w) where
  -- what holds of what was left holds of what is past the first n of it
  kept : (n : ℕ) (front back new : Hand X) (s t : Nonzeros X) → IsSparseWalk w number is_block front s back
      → is_block new.block → All (λ (entry : ℕ × X). is_block entry.1) t.left → new.index ≡ front.index
      → AscendsFrom (front.index / w + 1) (map (λ (entry : ℕ × X). entry.0) t.left ++ (back.index / w + 1) ∷ [])
      → t.blocks ≡ s.blocks → left_between w number new t.left back ≡ drop n (left_between w number front s.left back)
      → IsSparseWalk w number is_block new t back
  kept n front back new s t is lawful each index past same left =
      let old = left_between w number front s.left back in
      record {
        in_hand = lawful;
        at_back = is.at_back;
        each = each;
        whole = subst (λ i. i ≡ i / w * w) (sym index) is.whole;
        whole_back = is.whole_back;
        past = subst (λ i. AscendsFrom (i / w + 1) (map (λ (entry : ℕ × X). entry.0) t.left ++ (back.index / w + 1) ∷ [])) (sym index) past;
        inside = let count = ap length same in omega (arith, is.inside, count);
        fits = subst (λ xs. (length xs - 1) * w < 2 ^ 64) (sym same) is.fits;
        ascends = subst IsAscending (sym left) (ascends_drop n 0 old is.ascends);
        below = subst (All (λ i. i < 2 ^ 64 - 1)) (sym left) (All-drop (λ i. i < 2 ^ 64 - 1) n old is.below);
        count_fits = let count = ap length left in omega (arith, count, length-drop n old, is.count_fits);
      }

  -- what is left of it is passed
  hand_passed : (front back : Hand X) (it : Nonzeros X) (naught : X) → IsSparseWalk w number is_block front it back → is_block naught → number naught ≡ 0
      → IsSparseWalk w number is_block (record { block = naught; index = front.index }) it back × (count_ones (number front.block) ≤ length (left_between w number front it.left back))
      × Passes w (count_ones (number front.block)) (seen_of w number front it back) (seen_of w number (record { block = naught; index = front.index }) it back)
  hand_passed front back it naught is lawful none =
      let n = count_ones (number front.block) in
      let ones = indexes w front.index (number front.block) [] in
      let rest = indexes_of w number it.left ++ indexes w back.index (number back.block) [] in
      let old = left_between w number front it.left back in
      let count : length ones ≡ n = let all = length-indexes w front.index (number front.block) [] (small front.block is.in_hand) in omega (arith, all) in
      let left : left_between w number (record { block = naught; index = front.index }) it.left back ≡ drop n old =
      ap (λ xs. xs ++ rest) (indexes-none w front.index (number naught) none)
      ∙ sym (drop-append-le n ones rest (omega (arith, count)) ∙ ap (λ xs. xs ++ rest) (drop_all n ones (omega (arith, count)))) in (
        kept n front back (record { block = naught; index = front.index }) it it is lawful is.each refl is.past refl left,
        omega (arith, count, length-append ones rest),
        record { left = left; goes_on = omega arith; pulled = refl; along = refl; summary = refl },
      )

  -- blocks past it are passed where it is used up
  blocks_passed : (front back : Hand X) (s t : Nonzeros X) (ones : ℕ) → IsSparseWalk w number is_block front s back → number front.block ≡ 0 → SkipsBlocks number s ones t
      → IsSparseWalk w number is_block front t back × (ones ≤ length (left_between w number front s.left back)) × Passes w ones (seen_of w number front s back) (seen_of w number front t back)
  blocks_passed front back s t ones is none skip =
      let n : ℕ = skip.count in
      let at_front = indexes w front.index (number front.block) [] in
      let at_back = indexes w back.index (number back.block) [] in
      let passed = indexes_of w number (take n s.left) in
      let rest = indexes_of w number t.left ++ at_back in
      let old = left_between w number front s.left back in
      let count : length passed ≡ ones = ones_of_entries w number is_block small (take n s.left) (All-take (λ (entry : ℕ × X). is_block entry.1) n s.left is.each) ∙ sym skip.passed in
      let parts : old ≡ passed ++ rest =
      ap₂ (λ xs entries. xs ++ (indexes_of w number entries ++ at_back)) (indexes-none w front.index (number front.block) none) (sym (take-append-drop n s.left))
      ∙ ap (λ xs. xs ++ at_back) (indexes_of-append w number (take n s.left) (drop n s.left))
      ∙ append_assoc passed (indexes_of w number (drop n s.left)) at_back
      ∙ ap (λ entries. passed ++ (indexes_of w number entries ++ at_back)) (sym skip.left) in
      let left : left_between w number front t.left back ≡ drop ones old =
      ap (λ xs. xs ++ rest) (indexes-none w front.index (number front.block) none)
      ∙ sym (ap (λ k. drop k old) (sym count) ∙ ap (drop (length passed)) parts ∙ drop-append_seam passed rest) in
      let numbers = map (λ (entry : ℕ × X). entry.0) s.left in
      let past : AscendsFrom (front.index / w + 1) (map (λ (entry : ℕ × X). entry.0) t.left ++ (back.index / w + 1) ∷ []) =
      subst (AscendsFrom (front.index / w + 1)) (
      drop-append-le n numbers ((back.index / w + 1) ∷ []) (omega (arith, skip.within, length-map s.left (λ (entry : ℕ × X). entry.0)))
      ∙ ap (λ ks. ks ++ (back.index / w + 1) ∷ []) (drop-map (λ (entry : ℕ × X). entry.0) n s.left ∙ ap (map (λ (entry : ℕ × X). entry.0)) (sym skip.left))
      ) (ascends_drop n (front.index / w + 1) (numbers ++ (back.index / w + 1) ∷ []) is.past) in
      let each = subst (All (λ (entry : ℕ × X). is_block entry.1)) (sym skip.left) (All-drop (λ (entry : ℕ × X). is_block entry.1) n s.left is.each) in
      let fewer = ap length skip.left ∙ length-drop n s.left in (
        kept ones front back front s t is is.in_hand each refl past skip.same left,
        omega (arith, count, ap length parts, length-append passed rest),
        record {
          left = left;
          goes_on = omega (arith, skip.counted);
          pulled = omega (arith, skip.counted, skip.within, fewer);
          along = refl;
          summary = skip.summary;
        },
      )

  -- both in turn
  pub all_passed : (front back : Hand X) (s t : Nonzeros X) (naught : X) (ones : ℕ) → IsSparseWalk w number is_block front s back → is_block naught → number naught ≡ 0 → SkipsBlocks number s ones t
      → let n = count_ones (number front.block) + ones in let new : Hand X = record { block = naught; index = front.index } in
      IsSparseWalk w number is_block new t back × (n ≤ length (left_between w number front s.left back)) × Passes w n (seen_of w number front s back) (seen_of w number new t back)
  all_passed front back s t naught ones is lawful none skip =
      let n = count_ones (number front.block) in
      let new : Hand X = record { block = naught; index = front.index } in
      let (hand_walk, hand_there, hand_passes) = hand_passed front back s naught is lawful none in
      let (walk, there, passes) = blocks_passed new back s t ones hand_walk none skip in
      let fewer = ap length hand_passes.left ∙ length-drop n (left_between w number front s.left back) in
      (walk, omega (arith, hand_there, there, fewer), some_more w (seen_of w number front s back) (seen_of w number new s back) (seen_of w number new t back) n ones hand_passes passes)

-- ---- the calls so far

module _ (w : ℕ) where
  pub one_more : (s u t : Walk) (calls x : ℕ) → Passes w calls s u → Advances w u (Some x) t → Passes w (calls + 1) s t
  unfolding PullsBlocks
  one_more s u t calls x so step = record {
    left = sym (plus_one calls s.left ∙ (next_of_drop calls s.left t.left x (sym so.left ∙ step.item)).1);
    goes_on = omega (arith, so.goes_on, step.pulls.goes_on);
    pulled = step.pulls.nonzero ∙ so.pulled;
    along = step.pulls.along ∙ so.along;
    summary = step.pulls.summary ∙ so.summary;
  }

  -- the end was found on the way, or after it
  pub skips_to_end : (s u t : Walk) (calls n : ℕ) → Passes w calls s u → calls ≤ n → Advances w u None t → Skips w n s None t
  unfolding PullsBlocks PullsBlocksAlong
  skips_to_end s u t calls n so to step =
      let none = none_of_drop calls n s.left to (sym so.left ∙ step.item.0) in
      record {
        item = sym none.0;
        member = none.2;
        left = step.item.1 ∙ sym (plus_one n s.left ∙ none.1);
        pulls = record {
          goes_on = omega (arith, so.goes_on, step.pulls.goes_on);
          pulled = (omega (arith, step.pulls.sparse, step.pulls.nonzero, so.pulled), step.pulls.nonzero.1);
          along = step.pulls.along ∙ so.along;
          at = step.pulls.at;
          summary = (omega (arith, step.pulls.summary, so.summary), step.pulls.summary.1);
        };
      }

  pub skips : (s u t : Walk) (n : ℕ) (r : Option ℕ) → IsAscending s.left → Passes w n s u → Advances w u r t
      → Skips w n s r t
  unfolding PullsBlocks PullsBlocksAlong
  skips s u t n None up so step = skips_to_end s u t n n so (omega arith) step
  skips s u t n (Some x) up so step =
      let next = next_of_drop n s.left t.left x (sym so.left ∙ step.item) in
      let rank = rank_of 0 s.left n x up next.0 in
      record {
        item = sym next.0;
        member = (rank.1, rank.2);
        left = sym (plus_one n s.left ∙ next.1);
        pulls = record {
          goes_on = omega (arith, so.goes_on, step.pulls.goes_on);
          pulled = step.pulls.nonzero ∙ so.pulled;
          along = step.pulls.along ∙ so.along;
          at = step.pulls.at;
          summary = step.pulls.summary ∙ so.summary;
        };
      }
