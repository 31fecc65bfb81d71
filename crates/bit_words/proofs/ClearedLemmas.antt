-- Blocks that become 0, chunk by chunk.
use Rattle.std.proofs.Common.{◌≡◌, ◌≢◌, ℕ, ◌+◌, ◌-◌, ◌*◌, ◌/◌, ◌%◌, ◌<◌, ◌≤◌, div-lt_iff_lt-mul, Bool, false, true, List, set, map, length, get_or, get_or-set_same, get_or-set_other, length-set, min, All, refl, sym, ap, subst, ◌∙◌, ⊎_elim, arith}
use Rattle.std.proofs.lemmas.{Bool.{cases_eq, cases_lt, false≢true, true≢false}, Nat.le-div, List.{get_or_past, length-map}}
use Rattle.bit_blocks.specs.declared.block.merge.Merge.{Merge, TheVariants.{Union, Intersection, Difference, Symmetric}}
use Rattle.bit_blocks.specs.{BlockMerges.IsMergedSpan, Merges.merge_of_values, Digits.is_one, Storage.{value_at}}
use Rattle.bit_blocks.proofs.{CompareLemmas.digit_from_zero, StorageLemmas.value_at-is}
use Rattle.bit_words.specs.Summary.{AreCleared}

module _ {X : Type 0} (number : X → ℕ) (is_block : X → Type 0) where
  -- blocks that are 0 stay
  pub cleared_none : (a b : ℕ) (xs : List X) → All is_block xs → ((k : ℕ) → a ≤ k → k < b → get_or (map number xs) k 0 ≡ 0) → AreCleared number is_block a b xs xs
  cleared_none a b xs each zeros = record { zeros = zeros; before = λ k low. refl; after = λ k high. refl; each = each; len = refl }

  -- some blocks, and then the next
  pub cleared_more : (a b c : ℕ) (xs ys zs : List X) → a ≤ b → b ≤ c → AreCleared number is_block a b xs ys → AreCleared number is_block b c ys zs → AreCleared number is_block a c xs zs
  cleared_more a b c xs ys zs forward onward one two = record {
    zeros = λ k reached below. ⊎_elim (λ low. two.before k low ∙ one.zeros k reached low) (λ high. two.zeros k high below) (cases_lt k b);
    before = λ k low. two.before k (omega (arith, low, forward)) ∙ one.before k low;
    after = λ k high. two.after k high ∙ one.after k (omega (arith, high, onward));
    each = two.each;
    len = two.len ∙ one.len;
  }

  -- a chunk of which no block is left
  pub cleared_chunk : (w q left : ℕ) (xs ys : List X) → left ≡ 0 → ((p : ℕ) → p < w → is_one left p ≡ false → get_or (map number ys) (q * w + p) 0 ≡ 0)
      → ((k : ℕ) → k < q * w → get_or (map number ys) k 0 ≡ get_or (map number xs) k 0) → ((k : ℕ) → (q + 1) * w ≤ k → get_or (map number ys) k 0 ≡ get_or (map number xs) k 0)
      → All is_block ys → length ys ≡ length xs → AreCleared number is_block (q * w) ((q + 1) * w) xs ys
  cleared_chunk w q left xs ys none zeros before after each len = record {
    zeros = λ k reached below.
        let place : q * w + (k - q * w) ≡ k = omega (arith, reached) in
        rw place at (zeros (k - q * w) (omega (arith, below, reached)) (digit_from_zero left (k - q * w) none));
    before = before;
    after = after;
    each = each;
    len = len;
  }

-- Block i became 0, and no other changed.
pub record IsZeroed {X : Type 0} (number : X → ℕ) (i : ℕ) (xs ys : List X) : Type 0 where
  pub here : get_or (map number ys) i 0 ≡ 0
  pub others : (k : ℕ) → k ≢ i → get_or (map number ys) k 0 ≡ get_or (map number xs) k 0
  pub stays : (k : ℕ) → get_or (map number xs) k 0 ≡ 0 → get_or (map number ys) k 0 ≡ 0

pub set_zero : {X : Type 0} (number : X → ℕ) (i : ℕ) (xs ys : List X) (n : ℕ) → map number ys ≡ set (map number xs) i n → n ≡ 0 → IsZeroed number i xs ys
set_zero number i xs ys n is zero =
    let others : (k : ℕ) → k ≢ i → get_or (map number ys) k 0 ≡ get_or (map number xs) k 0 = λ k apart. ap (λ ms. get_or ms k 0) is ∙ get_or-set_other (map number xs) i k n 0 apart in
    let here : get_or (map number ys) i 0 ≡ 0 =
    ⊎_elim
    (λ (inside : i < length (map number xs)). ap (λ ms. get_or ms i 0) is ∙ get_or-set_same (map number xs) i n 0 inside ∙ zero)
    (λ (past : length (map number xs) ≤ i). get_or_past (map number ys) i 0 (omega (arith, past, ap length is ∙ length-set (map number xs) i n)))
    (cases_lt i (length (map number xs))) in
    record { here = here; others = others; stays = λ k none. ⊎_elim (λ (e : k ≡ i). subst (λ j. get_or (map number ys) j 0 ≡ 0) (sym e) here) (λ (apart : k ≢ i). others k apart ∙ none) (cases_eq k i) }

-- where indexes are cut at the greatest number, past the last block
pub cleared_saturated : {X : Type 0} (number : X → ℕ) (is_block : X → Type 0) (a b m : ℕ) (xs ys : List X) → a ≤ b → length xs ≤ m → AreCleared number is_block (min a m) (min b m) xs ys
    → AreCleared number is_block a b xs ys
cleared_saturated number is_block a b m xs ys forward few is =
    let past : (k : ℕ) → m ≤ k → get_or (map number ys) k 0 ≡ 0 = λ k high. get_or_past (map number ys) k 0 (rw length-map (omega (arith, high, few, is.len))) in
    let gone : (k : ℕ) → m ≤ k → get_or (map number xs) k 0 ≡ 0 = λ k high. get_or_past (map number xs) k 0 (rw length-map (omega (arith, high, few))) in
    record {
      zeros = λ k reached below. ⊎_elim (λ (low : k < m). is.zeros k (omega (arith, reached)) (omega (arith, below, low))) (past k) (cases_lt k m);
      before = λ k low. ⊎_elim (λ (in_range : k < m). is.before k (omega (arith, low, in_range))) (λ high. past k high ∙ sym (gone k high)) (cases_lt k m);
      after = λ k high. is.after k (omega (arith, high));
      each = is.each;
      len = is.len;
    }

-- a list whose chunks all became 0
pub cleared_all : {X : Type 0} (w chunks : ℕ) (number : X → ℕ) (is_block : X → Type 0) (xs ys : List X) → length xs ≤ chunks * w → AreCleared number is_block (0 * w) (chunks * w) xs ys
    → (i : ℕ) → value_at w (map number ys) i ≡ false
cleared_all w chunks number is_block xs ys enough is i =
    let zero : get_or (map number ys) (i / w) 0 ≡ 0 =
    ⊎_elim
    (λ below. is.zeros (i / w) (omega arith) below)
    (λ (past : chunks * w ≤ i / w). get_or_past (map number ys) (i / w) 0 (rw length-map (omega (arith, past, enough, is.len))))
    (cases_lt (i / w) (chunks * w)) in
    value_at-is w (map number ys) i ∙ digit_from_zero _ (i % w) zero

lost : (x : Bool) → false ≡ merge_of_values Difference x true
lost false = refl
lost true = refl

-- a span, and the next
pub joined_spans : (m : Merge) (w a b c : ℕ) (ms ns os : List ℕ) → a ≤ b → b ≤ c → IsMergedSpan m w a b ms ns → IsMergedSpan m w b c ns os → IsMergedSpan m w a c ms os
joined_spans m w a b c ms ns os forward onward one two = record {
  inside = λ i reached below. ⊎_elim (λ low. two.before i low ∙ one.inside i reached low) (λ high. two.inside i high below ∙ ap (λ x. merge_of_values m x true) (one.after i high)) (cases_lt i b);
  before = λ i low. two.before i (omega (arith, low, forward)) ∙ one.before i low;
  after = λ i high. two.after i high ∙ one.after i (omega (arith, high, onward));
}

-- and where the second was merged first
pub joined_spans_back : (m : Merge) (w a b c : ℕ) (ms ns os : List ℕ) → a ≤ b → b ≤ c → IsMergedSpan m w b c ms ns → IsMergedSpan m w a b ns os → IsMergedSpan m w a c ms os
joined_spans_back m w a b c ms ns os forward onward two one = record {
  inside = λ i reached below. ⊎_elim (λ low. one.inside i reached low ∙ ap (λ x. merge_of_values m x true) (two.before i low)) (λ high. one.after i high ∙ two.inside i high below) (cases_lt i b);
  before = λ i low. one.before i low ∙ two.before i (omega (arith, low, forward));
  after = λ i high. one.after i (omega (arith, high, onward)) ∙ two.after i high;
}

-- chunks that became 0
pub cleared_span : {X : Type 0} (w first last : ℕ) (number : X → ℕ) (is_block : X → Type 0) (xs ys : List X) → 0 < w → AreCleared number is_block (first * w) (last * w) xs ys
    → IsMergedSpan Difference w (first * w * w) (last * w * w) (map number xs) (map number ys)
cleared_span w first last number is_block xs ys pos is =
    let same : (i : ℕ) → get_or (map number ys) (i / w) 0 ≡ get_or (map number xs) (i / w) 0 → value_at w (map number ys) i ≡ value_at w (map number xs) i =
    λ i e. value_at-is w (map number ys) i ∙ ap (λ m. is_one m (i % w)) e ∙ sym (value_at-is w (map number xs) i) in
    record {
      inside = λ i reached below.
          value_at-is w (map number ys) i
          ∙ digit_from_zero _ (i % w) (is.zeros (i / w) (le-div (first * w) i w pos reached) ((div-lt_iff_lt-mul pos).1 below))
          ∙ lost (value_at w (map number xs) i);
      before = λ i low. same i (is.before (i / w) ((div-lt_iff_lt-mul pos).1 low));
      after = λ i high. same i (is.after (i / w) (le-div (last * w) i w pos high));
    }

-- what is not the union, keeps what is merged with false, and makes one value of what is merged with true
pub only_difference : (m : Merge) → m ≢ Union → merge_of_values m true false ≡ true → ((x : Bool) → merge_of_values m x true ≡ merge_of_values m true true) → m ≡ Difference
only_difference Union apart keeps fills = absurd (apart refl)
only_difference Intersection apart keeps fills = absurd (false≢true keeps)
only_difference Difference apart keeps fills = refl
only_difference Symmetric apart keeps fills = absurd (true≢false (fills false))
