-- Where two lists of blocks differ, run by run of their chunks.
use Rattle.std.proofs.Common.{◌≡◌, ◌≢◌, ℕ, ◌+◌, ◌-◌, ◌*◌, ◌/◌, ◌%◌, ◌^◌, ◌<◌, ◌≤◌, ◌==◌, Bool, false, true, not, Option, None, Some, MatchOption, is_some, unwrap_or, div-lt_iff_lt-mul, List, map}
use Rattle.std.proofs.Common.{drop, take, get_or, length, length-take, sym, subst, ap, ◌∙◌, ⊎_elim, arith}
use Rattle.std.proofs.lemmas.{Bool.{cases_lt, cases_eq, false≢true}, List.{get_or_past, length-map}, Nat.le-div}
use Rattle.bit_blocks.specs.{Digits.is_one, Lowest.{IsLowest, IsCleared}, Mismatches.IsFirstBlockMismatch, Storage.{value_at, is_used}}
use Rattle.bit_blocks.proofs.{BitsLemmas.blocks_for-enough, CompareLemmas.digit_from_zero, StorageLemmas.{value_at-is, value_at-past}, UseLemmas.{same_block, zero_from_unused}}
use Rattle.bit_blocks.proofs.{VectorLemmas.numbers_below, ZeroLemmas.{dropped, front_read}}
use Rattle.bit_words.specs.Summary.{IsSummary}

module _ {X : Type 0} (w q count : ℕ) (number : X → ℕ) (is_block : X → Type 0) where
  -- block k of the blocks that `count` chunks from chunk q on have
  pub run_read : (k : ℕ) (xs rest run : List X) → rest ≡ drop (q * w) xs → run ≡ take (count * w) rest → k < count * w → get_or (map number run) k 0 ≡ get_or (map number xs) (q * w + k) 0
  run_read k xs rest run from is within =
      ap (λ ys. get_or (map number ys) k 0) (is ∙ ap (take (count * w)) from)
      ∙ front_read w number is_block (drop (q * w) xs) (count * w) k within
      ∙ dropped number (q * w) k xs

  -- past them there is none
  run_past : (k : ℕ) (rest run : List X) → run ≡ take (count * w) rest → count * w ≤ k → get_or (map number run) k 0 ≡ 0
  run_past k rest run is past =
      let few = ap length is ∙ length-take (count * w) rest in
      get_or_past (map number run) k 0 (omega (arith, few, length-map run number))

  module _ (xs ys rest other_rest run other_run : List X) (from : rest ≡ drop (q * w) xs) (is : run ≡ take (count * w) rest) (other_from : other_rest ≡ drop (q * w) ys)
      (other_is : other_run ≡ take (count * w) other_rest) (before : (k : ℕ) → k < q * w → get_or (map number xs) k 0 ≡ get_or (map number ys) k 0) where
    pub same_run : ((k : ℕ) → get_or (map number run) k 0 ≡ get_or (map number other_run) k 0) → (k : ℕ) → k < (q + count) * w → get_or (map number xs) k 0 ≡ get_or (map number ys) k 0
    same_run same k below =
        ⊎_elim
        (before k)
        (λ (reached : q * w ≤ k).
        let place : q * w + (k - q * w) ≡ k = omega arith in
        let end : (q + count) * w ≡ q * w + count * w = omega arith in
        let within : k - q * w < count * w = omega arith in
        rw place at (sym (run_read (k - q * w) xs rest run from is within) ∙ same (k - q * w) ∙ run_read (k - q * w) ys other_rest other_run other_from other_is within))
        (cases_lt k (q * w))

    pub first_run : (k : ℕ) → IsFirstBlockMismatch (map number run) (map number other_run) k → IsFirstBlockMismatch (map number xs) (map number ys) (q * w + k)
    first_run k first =
        let within : k < count * w =
        ⊎_elim
        (λ below. below)
        (λ past. absurd (first.here (run_past k rest run is past ∙ sym (run_past k other_rest other_run other_is past))))
        (cases_lt k (count * w)) in
        record {
          below = λ j low.
              ⊎_elim
              (before j)
              (λ (reached : q * w ≤ j).
              let place : q * w + (j - q * w) ≡ j = omega arith in
              rw place at (sym (run_read (j - q * w) xs rest run from is (omega arith))
              ∙ first.below (j - q * w) (omega arith)
              ∙ run_read (j - q * w) ys other_rest other_run other_from other_is (omega arith)))
              (cases_lt j (q * w));
          here = λ same. first.here (run_read k xs rest run from is within ∙ same ∙ sym (run_read k ys other_rest other_run other_from other_is within));
        }

-- ---- options

pub from_none : {A : Type 0} (o : Option A) (P : Type 0) (Q : A → Type 0) → is_some o ≡ false → MatchOption o P Q → P
from_none None P Q is match = match
from_none (Some x) P Q is match = absurd (false≢true (sym is))

pub for_none : {A : Type 0} (o : Option A) (P R : Type 0) (Q : A → Type 0) → (P → R) → MatchOption o P Q → MatchOption o R Q
for_none None P R Q more match = more match
for_none (Some x) P R Q more match = match

-- ---- block by block

module _ (w q : ℕ) (ms ns : List ℕ) (before : (k : ℕ) → k < q * w → get_or ms k 0 ≡ get_or ns k 0) where
  -- where none is left, the chunk is the same
  pub same_chunk : (left : ℕ) → left ≡ 0 → ((p : ℕ) → p < w → is_one left p ≡ false → get_or ms (q * w + p) 0 ≡ get_or ns (q * w + p) 0) → (k : ℕ) → k < (q + 1) * w
      → get_or ms k 0 ≡ get_or ns k 0
  same_chunk left none same k below =
      ⊎_elim
      (before k)
      (λ (reached : q * w ≤ k).
      let place : q * w + (k - q * w) ≡ k = omega arith in
      rw place at (same (k - q * w) (omega (arith, below, reached)) (digit_from_zero left (k - q * w) none)))
      (cases_lt k (q * w))

  -- the lowest that is left is the first that differs, if it does
  pub first_of_used : (left i : ℕ) → i < w → IsLowest left i → ((p : ℕ) → p < w → is_one left p ≡ false → get_or ms (q * w + p) 0 ≡ get_or ns (q * w + p) 0)
      → get_or ms (q * w + i) 0 ≢ get_or ns (q * w + i) 0 → IsFirstBlockMismatch ms ns (q * w + i)
  first_of_used left i within low same here = record {
    below = λ j early.
        ⊎_elim
        (before j)
        (λ (reached : q * w ≤ j).
        let place : q * w + (j - q * w) ≡ j = omega arith in
        let zero : is_one left (j - q * w) ≡ false = ap (λ d. d == 1) (low.zeros (j - q * w) (omega (arith, early, reached))) in
        rw place at (same (j - q * w) (omega (arith, early, reached, within)) zero))
        (cases_lt j (q * w));
    here = here;
  }

-- what holds where a number has a 0, and where its lowest 1 is, holds where that is cleared
pub same_but_lowest : (w i left rest : ℕ) (P : ℕ → Type 0) → IsCleared w left i rest → ((p : ℕ) → p < w → is_one left p ≡ false → P p) → P i
    → (p : ℕ) → p < w → is_one rest p ≡ false → P p
same_but_lowest w i left rest P cleared same here p within none =
    ⊎_elim
    (λ (e : p ≡ i). subst P (sym e) here)
    (λ (apart : p ≢ i). same p within (sym (ap (λ d. d == 1) (cleared.kept p within apart)) ∙ none))
    (cases_eq p i)

-- what is left of a number has a 1 where it had one
pub ones_but_lowest : (w i left rest p : ℕ) → IsCleared w left i rest → p < w → is_one rest p ≡ true → is_one left p ≡ true
ones_but_lowest w i left rest p cleared within one =
    ⊎_elim
    (λ (e : p ≡ i). absurd (false≢true (sym (ap (λ d. d == 1) cleared.cleared) ∙ sym (ap (is_one rest) e) ∙ one)))
    (λ (apart : p ≢ i). sym (ap (λ d. d == 1) (cleared.kept p within apart)) ∙ one)
    (cases_eq p i)

-- ---- by summaries

-- what zeros of a summary say
pub zero_chunks : {X : Type 0} (w q n : ℕ) (number : X → ℕ) (ss rest : List X) → 0 < w → rest ≡ drop q ss → ((j : ℕ) → j < n → get_or (map number rest) j 0 ≡ 0) → (k : ℕ) → q * w ≤ k
    → k < (q + n) * w → value_at w (map number ss) k ≡ false
zero_chunks w q n number ss rest pos is zeros k reached below =
    let first : q ≤ k / w = le-div q k w pos reached in
    let last : k / w < q + n = (div-lt_iff_lt-mul pos).1 below in
    let place : q + (k / w - q) ≡ k / w = omega arith in
    let zero = rw place at (sym (dropped number q (k / w - q) ss) ∙ ap (λ ys. get_or (map number ys) (k / w - q) 0) (sym is) ∙ zeros (k / w - q) (omega arith)) in
    value_at-is w (map number ss) k ∙ digit_from_zero (get_or (map number ss) (k / w) 0) (k % w) zero

-- a summary has a bit of each block
pub summary_enough : {X : Type 0} (w : ℕ) (number : X → ℕ) (is_block : X → Type 0) (xs ss : List X) → 0 < w → IsSummary w number is_block xs ss → length xs ≤ length ss * w
summary_enough w number is_block xs ss pos is =
    let whole = ap (λ k. k * w) is.packed.count in
    omega (arith, blocks_for-enough w (length xs) pos, whole)

-- a block that is not 0 is in its list
pub used_within : {X : Type 0} (number : X → ℕ) (xs : List X) (k : ℕ) → is_used (map number xs) k ≡ true → k < length xs
used_within number xs k some =
    ⊎_elim
    (λ below. below)
    (λ (past : length xs ≤ k). absurd (false≢true (sym (ap (λ m. not (m == 0)) (get_or_past (map number xs) k 0 (rw length-map past))) ∙ some)))
    (cases_lt k (length xs))

module _ {X : Type 0} (w : ℕ) (number : X → ℕ) (is_block : X → Type 0) (xs ys ss ts : List X) (pos : 0 < w) (own : IsSummary w number is_block xs ss) (other : IsSummary w number is_block ys ts) where
  -- blocks of which neither summary has a bit
  pub both_zero : (k : ℕ) → get_or (map number ss) (k / w) 0 ≡ get_or (map number ts) (k / w) 0 → value_at w (map number ss) k ≡ false → get_or (map number xs) k 0 ≡ get_or (map number ys) k 0
  both_zero k same none =
      let also : value_at w (map number ts) k ≡ false = value_at-is w (map number ts) k ∙ ap (λ m. is_one m (k % w)) (sym same) ∙ sym (value_at-is w (map number ss) k) ∙ none in
      zero_from_unused _ (sym (own.digit k) ∙ none) ∙ sym (zero_from_unused _ (sym (other.digit k) ∙ also))

  -- blocks of which a summary has a bit
  pub in_both : (k : ℕ) → get_or (map number ss) (k / w) 0 ≡ get_or (map number ts) (k / w) 0 → value_at w (map number ss) k ≡ true → (k < length xs) × (k < length ys)
  in_both k same some =
      let also : value_at w (map number ts) k ≡ true = value_at-is w (map number ts) k ∙ ap (λ m. is_one m (k % w)) (sym same) ∙ sym (value_at-is w (map number ss) k) ∙ some in
      (used_within number xs k (sym (own.digit k) ∙ some), used_within number ys k (sym (other.digit k) ∙ also))

pub none_since : (o : Option ℕ) (b : Bool) (ms ns : List ℕ) (P : Type 0) → is_some o ≡ not b → MatchOption o P (IsFirstBlockMismatch ms ns) → ((k : ℕ) → get_or ms k 0 ≡ get_or ns k 0) → b ≡ true
none_since None b ms ns P is match same = grind arith
none_since (Some k) b ms ns P is match same = absurd (match.here (same k))

-- up to where they differ, blocks are the same
pub same_below : (o : Option ℕ) (most end : ℕ) (ms ns : List ℕ) → end ≡ unwrap_or o most → MatchOption o ((k : ℕ) → get_or ms k 0 ≡ get_or ns k 0) (IsFirstBlockMismatch ms ns) → (k : ℕ)
    → k < end → get_or ms k 0 ≡ get_or ns k 0
same_below None most end ms ns is match k below = match k
same_below (Some at) most end ms ns is match k below = match.below k (omega (arith, is))

-- ---- parts of summaries

-- block j of the blocks from `first` on, as many as `count`
pub part_read : {X : Type 0} (number : X → ℕ) (is_block : X → Type 0) (first count j : ℕ) (xs : List X) → j < count
    → get_or (map number (take count (drop first xs))) j 0 ≡ get_or (map number xs) (first + j) 0
part_read number is_block first count j xs within = front_read 1 number is_block (drop first xs) count j within ∙ dropped number first j xs

-- two lists of so many blocks at most differ before that, or not at all
pub first_within : {X : Type 0} (number : X → ℕ) (o : Option ℕ) (count end : ℕ) (own other rest others : List X) → own ≡ take count rest → other ≡ take count others → end ≡ unwrap_or o count
    → MatchOption o ((k : ℕ) → get_or (map number own) k 0 ≡ get_or (map number other) k 0) (IsFirstBlockMismatch (map number own) (map number other)) → end ≤ count
first_within number None count end own other rest others is also at match = omega (arith, at)
first_within number (Some k) count end own other rest others is also at match =
    ⊎_elim
    (λ (below : k < count). omega (arith, at, below))
    (λ (past : count ≤ k). absurd (match.here (
    get_or_past (map number own) k 0 (omega (arith, past, ap length is, length-take count rest, length-map own number))
    ∙ sym (get_or_past (map number other) k 0 (omega (arith, past, ap length also, length-take count others, length-map other number)))
    )))
    (cases_lt k count)
