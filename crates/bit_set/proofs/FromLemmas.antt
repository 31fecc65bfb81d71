-- A walk that starts at any number: what is left of the first block, and of the blocks past it.
use Rattle.std.proofs.Common.{◌≡◌, ℕ, zero, suc, ◌+◌, ◌-◌, ◌*◌, ◌/◌, ◌%◌, ◌^◌, ◌<◌, ◌≤◌, Bool, false, ◌&&◌, leb, List, [], ◌∷◌, ◌++◌, map, length, drop, get_or, get_or-drop, min, All, refl, sym, ap}
use Rattle.std.proofs.Common.{ap₂, ◌∙◌, subst, arith, mod-lt, mul-le-mul_right, div-add-mod'}
use Rattle.std.proofs.lemmas.{Bool.Decides.nat_tests, List.{append-nil, drop-map, get_or_past, length-drop, length-map, Elements.{All-drop, All-filter}, Sums.{count_by-le-length, length-filter}}}
use Rattle.std.proofs.lemmas.{Nat.Bits.bit_at-zero}
use Rattle.bit_blocks.specs.{Bits.{blocks_for, blocks_of}, Digits.is_one}
use Rattle.bit_words.specs.Nonzero.{Hand, Nonzeros, StartsPast}
use Rattle.set_algebra.specs.Sets.{AscendsFrom, IsAscending, elements_from, elements, those_from}
use Rattle.bit_set.specs.Indexes.{indexes, indexes_of, left_between, seen_of, values_in, IsSparseWalk}
use Rattle.bit_set.specs.Walk.{Walk, IsAtStart, IsAtStartFrom, IsAtFirstBlock, IsAtBlockOf, blocks_past}
use Rattle.bit_set.proofs.IndexLemmas.{indexes-apart, indexes-below, indexes-next, indexes-zero, value_in, values_in-blocks_of}
use Rattle.set_algebra.proofs.SetLemmas.{AscendsFrom-elements_from, AscendsFrom-filter, AscendsFrom-lower, has-filter, IsAscending-elements, has-below, has-elements, has-elements_from, same_members}
use Rattle.bit_set.proofs.EntryLemmas.{ascends_entries, blocks_of_entries, each_entry, indexes_of-nonzero, passed_in_block}
use Rattle.set_algebra.proofs.SplitLemmas.{all_from}
use Rattle.bit_set.proofs.{SparseLemmas.whole_index, WalkLemmas.{IsWalkable-values_of_blocks, elements-values_of_blocks, values_of_blocks, length-blocks}}

-- the block of a number, or one before, begins at the number or before
pub begins_by : (w u from n k : ℕ) → u ≡ w → k ≡ min (from / w) n → k * u ≤ from
begins_by w u from n k same at =
    let before : k ≤ from / w = omega (arith, at) in
    let product = mul-le-mul_right w before in
    let whole = div-add-mod' from w in
    rw same (omega (arith, product, whole))

-- Of some blocks, k is the one of `from`, or the last, and m is what that block has from there on.
pub record IsCut {X : Type 0} (w : ℕ) (number : X → ℕ) (blocks : List X) (from k m : ℕ) : Type 0 where
  pub at : k ≡ min (from / w) (length blocks - 1)
  pub digit : (j : ℕ) → j < w → is_one m j ≡ (leb (from - k * w) j && is_one (get_or (map number blocks) k 0) j)

same_test : (from p j : ℕ) → p ≤ from → leb (from - p) j ≡ leb from (p + j)
same_test from p j within = grind (arith, nat_tests)

module _ {X : Type 0} (w : ℕ) (number : X → ℕ) (pos : 0 < w) where
  block_before : (blocks : List X) (from k m : ℕ) → IsCut w number blocks from k m → k * w ≤ from
  block_before blocks from k m is = begins_by w w from (length blocks - 1) k refl is.at

  -- digit j of the block q past the first
  digit_at : (blocks : List X) (from k m q j : ℕ) → IsCut w number blocks from k m → j < w
      → is_one (get_or (m ∷ map number (drop (k + 1) blocks)) q 0) j ≡ (leb from (k * w + (q * w + j)) && is_one (get_or (map number blocks) (k + q) 0) j)
  digit_at blocks from k m zero j is within =
      let digit = is.digit j within in
      let test = same_test from (k * w) j (block_before blocks from k m is) in
      grind arith
  digit_at blocks from k m (suc q) j is within =
      let block : get_or (map number (drop (k + 1) blocks)) q 0 ≡ get_or (map number blocks) (k + suc q) 0 =
      ap (λ ms. get_or ms q 0) (sym (drop-map number (k + 1) blocks)) ∙ get_or-drop (k + 1) (map number blocks) q 0
      ∙ ap (λ n. get_or (map number blocks) n 0) (let e : k + 1 + q ≡ k + suc q = omega arith in e) in
      let past = get_or_past (map number blocks) (k + suc q) 0 in
      let product = λ (no : from / w ≤ k). mul-le-mul_right w no in
      grind (arith, nat_tests, is.at, div-add-mod' from w, mod-lt from pos, length-map blocks number, bit_at-zero j)

  value_from : (blocks : List X) (values : List Bool) (from k m i : ℕ) → IsCut w number blocks from k m → map number blocks ≡ blocks_of w values
      → get_or (values_in w (m ∷ map number (drop (k + 1) blocks))) i false ≡ (leb from (k * w + i) && get_or values (k * w + i) false)
  value_from blocks values from k m i is numbers =
      let q = i / w in
      let j = i % w in
      let within = mod-lt i pos in
      let split : i ≡ q * w + j = sym (div-add-mod' i w) in
      let index : (k + q) * w + j ≡ k * w + i = omega (arith, split) in
      let old = value_in w (map number blocks) (k + q) j within in
      let new = value_in w (m ∷ map number (drop (k + 1) blocks)) q j within in
      let read = values_in-blocks_of w values pos ((k + q) * w + j) in
      let digit = digit_at blocks from k m q j is within in
      cc

  -- what is left is what the set has from there on
  pub left_from : (blocks : List X) (values : List Bool) (from k m : ℕ) → IsCut w number blocks from k m → map number blocks ≡ blocks_of w values
      → indexes w (k * w) m (values_of_blocks w number (drop (k + 1) blocks)) ≡ those_from (elements values) from
  left_from blocks values from k m is numbers =
      let p = k * w in
      let bs = values_in w (m ∷ map number (drop (k + 1) blocks)) in
      sym (indexes-next w p m bs (values_of_blocks w number (drop (k + 1) blocks)) refl)
      ∙ same_members _ (those_from (elements values) from) (AscendsFrom-lower p 0 _ (omega arith) (AscendsFrom-elements_from p bs))
      (AscendsFrom-filter 0 _ (elements values) (IsAscending-elements values))
      (λ n.
      let below = has-below p (elements_from p bs) n (AscendsFrom-elements_from p bs) in
      let member = has-elements_from p bs (n - p) in
      let value = value_from blocks values from k m (n - p) is numbers in
      let before = block_before blocks from k m is in
      grind (arith, nat_tests, has-elements values n, has-filter (λ i. leb from i) (elements values) n))

-- ---- the making

-- What holds of a walk over the nonzero blocks of these values past block k.
pub record IsPast {X : Type 0} (w : ℕ) (number : X → ℕ) (is_block : X → Type 0) (values : List Bool) (k : ℕ) (it : Nonzeros X) : Type 0 where
  pub numbers : map number it.blocks ≡ blocks_of w values
  pub each : All is_block it.blocks
  pub start : StartsPast w number k it
  pub fits : length values < 2 ^ 64

-- With these blocks in hand a walk over the blocks of these values is at its start.
pub record BeginsFrom {X : Type 0} (w : ℕ) (number : X → ℕ) (is_block : X → Type 0) (values : List Bool) (from : ℕ) (front : Hand X) (it : Nonzeros X) (back : Hand X) : Type 0 where
  pub walk : IsSparseWalk w number is_block front it back
  pub start : IsAtStartFrom w values from (seen_of w number front it back)

pub begins_from : {X : Type 0} (w : ℕ) (number : X → ℕ) (is_block : X → Type 0) (values : List Bool) (from k : ℕ) (block naught : X) (it : Nonzeros X)
    → 0 < w → ((x : X) → is_block x → number x < 2 ^ w) → IsPast w number is_block values k it → is_block block → is_block naught → number naught ≡ 0
    → IsCut w number it.blocks from k (number block)
    → BeginsFrom w number is_block values from (record { block = block; index = k * w }) it (record { block = naught; index = (length it.blocks - 1) * w })
unfolding IsAtBlockOf
begins_from {X = X} w number is_block values from k block naught it pos small is lawful lawful_naught none cut =
    let n = length it.blocks in
    let rest = drop (k + 1) it.blocks in
    let front : Hand X = record { block = block; index = k * w } in
    let back : Hand X = record { block = naught; index = (n - 1) * w } in
    let bs = values_of_blocks w number rest in
    let ones = indexes w (k * w) (number block) [] in
    let index_is : k * w / w ≡ k = whole_index w k pos in
    let last_is : (n - 1) * w / w ≡ n - 1 = whole_index w (n - 1) pos in
    let many = length-blocks w number it.blocks values is.numbers in
    let can = IsWalkable-values_of_blocks w number it.blocks values 0 pos is.numbers is.fits in
    let all = elements-values_of_blocks w number it.blocks values pos is.numbers in
    let each = All-drop is_block (k + 1) it.blocks is.each in
    let next : k * w + w ≡ (k + 1) * w = omega arith in
    let left_is = ap (λ walk. walk.left) is.start in
    let inner : indexes_of w number it.left ≡ elements_from (k * w + w) bs = ap (indexes_of w number) left_is ∙ indexes_of-nonzero w number (k + 1) rest ∙ ap (λ p. elements_from p bs) (sym next) in
    let at_back : indexes w ((n - 1) * w) (number naught) [] ≡ [] = ap (λ m. indexes w ((n - 1) * w) m []) none ∙ indexes-zero w ((n - 1) * w) [] in
    let left : left_between w number front it.left back ≡ those_from (elements values) from =
    ap₂ (λ xs ys. ones ++ (xs ++ ys)) inner at_back
    ∙ ap (λ xs. ones ++ xs) (append-nil (elements_from (k * w + w) bs))
    ∙ sym (indexes-apart w (k * w) (number block) bs)
    ∙ left_from w number pos it.blocks values from k (number block) cut is.numbers in
    let few : length (those_from (elements values) from) < 2 ^ 64 =
    omega (arith, length-filter (λ i. leb from i) (elements values), count_by-le-length (λ i. leb from i) (elements values), rw all at can.count_fits) in
    let up : IsAscending (those_from (elements values) from) = AscendsFrom-filter 0 (λ i. leb from i) (elements values) (IsAscending-elements values) in
    let below : All (λ i. i < 2 ^ 64 - 1) (those_from (elements values) from) = All-filter (λ i. leb from i) (λ i. i < 2 ^ 64 - 1) (elements values) (rw all at can.below) in
    let first : k ≡ min (from / w) (blocks_for w (length values) - 1) = cut.at ∙ ap (λ i. min (from / w) (i - 1)) many in
    let past : AscendsFrom (k + 1) (map (λ (entry : ℕ × X). entry.0) it.left ++ (n - 1 + 1) ∷ []) =
    subst (λ entries. AscendsFrom (k + 1) (map (λ (entry : ℕ × X). entry.0) entries ++ (n - 1 + 1) ∷ [])) (sym left_is)
    (ascends_entries w number (k + 1) (n - 1 + 1) rest (let count = length-drop (k + 1) it.blocks in omega (arith, count, cut.at))) in
    let in_blocks : length (blocks_past w k (left_between w number front it.left back)) ≡ length it.left =
    ap length (passed_in_block w k ones (indexes_of w number it.left ++ indexes w ((n - 1) * w) (number naught) []) pos (rw next at (indexes-below w (k * w) (number block))))
    ∙ ap (λ xs. length (blocks_past w k xs)) (ap (λ ys. indexes_of w number it.left ++ ys) at_back ∙ append-nil (indexes_of w number it.left))
    ∙ ap (λ entries. length (blocks_past w k (indexes_of w number entries))) left_is
    ∙ blocks_of_entries w number is_block small k (k + 1) rest pos (omega arith) each
    ∙ ap length (sym left_is) in
    record {
      walk = record {
        in_hand = lawful;
        at_back = lawful_naught;
        each = subst (All (λ (entry : ℕ × X). is_block entry.1)) (sym left_is) (each_entry w number is_block (k + 1) rest each);
        whole = ap (λ j. j * w) (sym index_is);
        whole_back = ap (λ j. j * w) (sym last_is);
        past = rw (index_is, last_is) past;
        inside = omega (arith, last_is);
        fits = omega (arith, can.fits);
        ascends = subst IsAscending (sym left) up;
        below = subst (All (λ i. i < 2 ^ 64 - 1)) (sym left) below;
        count_fits = omega (arith, ap length left, few);
      };
      start = record {
        left = left;
        count_fits = omega (arith, ap length left, few);
        at = record {
          pulls = ap (λ walk. walk.pulls) is.start;
          index = ap (λ i. i * w) first;
          blocks = omega (arith, index_is, last_is, many, cut.at);
          nonzero = sym in_blocks ∙ ap₂ (λ j xs. length (blocks_past w j xs)) (sym index_is) left;
          summary = let at = ap (λ i. i / w) first in let chunks = ap (blocks_for w) many in
              omega (arith, ap (λ walk. walk.summary_pulls) is.start, ap (λ walk. walk.summary_left) is.start, at, chunks);
        };
      };
    }

-- the index of the last block is a `usize`
pub last_fits : {X : Type 0} (w : ℕ) (number : X → ℕ) (blocks : List X) (values : List Bool) → 0 < w
    → map number blocks ≡ blocks_of w values → length values < 2 ^ 64 → (length blocks - 1) * w < 2 ^ 64
last_fits w number blocks values pos numbers fits = let can = IsWalkable-values_of_blocks w number blocks values 0 pos numbers fits in omega (arith, can.fits)

-- from 0 on it is the walk over all
pub starts_at_all : (w : ℕ) (values : List Bool) (t : Walk) → 0 < w → IsAtStartFrom w values 0 t → IsAtStart w values t
unfolding IsAtFirstBlock IsAtBlockOf
starts_at_all w values t pos start =
    let all = all_from values in
    let zero_index : 0 / w ≡ 0 = ap (λ n. n / w) (let e : 0 ≡ 0 * w = omega arith in e) ∙ whole_index w 0 pos in
    grind arith
