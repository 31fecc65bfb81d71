-- What merges with a span of true values do to the value at every index.
use Rattle.std.proofs.Common.{◌≡◌, ◌≢◌, ℕ, suc, ◌+◌, ◌-◌, ◌*◌, ◌/◌, ◌%◌, ◌^◌, ◌<◌, ◌≤◌, ◌↔◌, Bool, true, false, ◌&&◌, nat_lt}
use Rattle.std.proofs.Common.{nat_le, List, get_or, sym, ap, ◌∙◌, arith, mod-lt, div-add-mod', lt_of_mul-lt-mul_right}
use Rattle.std.proofs.lemmas.{Bool.Decides.nat_tests, Nat.div-mul-add}
use Rattle.bit_blocks.specs.{declared.block.merge.Merge.Merge, BlockMerges.{IsMergedSpan, MergesSpanToFalse}, Digits.is_one, Merges.merge_of_values, Places.IsPlace, Storage.value_at}
use Rattle.bit_blocks.proofs.{ChangeLemmas.div_le, Masks.is_one-ones, MergeLemmas.merge_of_values-none, StorageLemmas.{value_at-index, value_at-is}}

-- an index in a block
pub in_block : (w k i : ℕ) → k * w ≤ i → i < k * w + w → i / w ≡ k
in_block w k i from to = ap (λ x. x / w) (let e : i ≡ k * w + (i - k * w) = omega arith in e) ∙ div-mul-add k w (i - k * w) (omega arith)

-- the block of a place
block_of : (w i k p : ℕ) → IsPlace w i k p → i / w ≡ k
block_of w i k p is = ap (λ x. x / w) is.whole ∙ div-mul-add k w p is.within

-- the last block of a span, where it is not the first
pub past_first : (w a b k p q r : ℕ) → IsPlace w a k p → IsPlace w b q r → a < b → k ≢ q → k + 1 ≤ q
past_first w a b k p q r first last some other = omega (arith, div_le w a b (omega (arith, first.within)) (omega arith), block_of w a k p first, block_of w b q r last)

-- the blocks before the end of a span are blocks of the list
pub end_within : (w b q p n : ℕ) → IsPlace w b q p → b ≤ n * w → q ≤ n
end_within w b q p n end within =
    let l : q < suc n = lt_of_mul-lt-mul_right w (let e : q * w < suc n * w = omega (arith, end.whole, end.within) in e) in
    omega arith

-- and so is the one that it begins in
pub starts_within : (w a k p n : ℕ) → IsPlace w a k p → a < n * w → k < n
starts_within w a k p n start within = lt_of_mul-lt-mul_right w (let e : k * w < n * w = omega (arith, start.whole) in e)

-- ---- masks, whose ones are a span of block k

pub ones_span : (w k a b p q x : ℕ) → a ≡ k * w + p → b ≡ k * w + q → ((j : ℕ) → j < w → is_one x j ≡ (nat_lt j q && nat_le p j))
    → (j : ℕ) → j < w → is_one x j ≡ (nat_le a (k * w + j) && nat_lt (k * w + j) b)
ones_span w k a b p q x start end digits j index = digits j index ∙ grind (arith, nat_tests)

pub mask_from : (w a k p x : ℕ) → a ≡ k * w + p → ((j : ℕ) → j < w → is_one x j ≡ nat_le p j) → (j : ℕ) → j < w → is_one x j ≡ (nat_le a (k * w + j) && nat_lt (k * w + j) ((k + 1) * w))
mask_from w a k p x start digits =
    ones_span w k a ((k + 1) * w) p w x start (omega arith) (λ j index. digits j index ∙ grind (arith, nat_tests))

pub mask_below : (w b k q x : ℕ) → b ≡ k * w + q → x ≡ 2 ^ q - 1 → (j : ℕ) → j < w → is_one x j ≡ (nat_le (k * w) (k * w + j) && nat_lt (k * w + j) b)
mask_below w b k q x end ones =
    ones_span w k (k * w) b 0 q x (omega arith) end (λ j _. is_one-ones x q j ones ∙ grind (arith, nat_tests))

pub mask_whole : (w k x : ℕ) → x ≡ 2 ^ w - 1 → (j : ℕ) → j < w → is_one x j ≡ (nat_le (k * w) (k * w + j) && nat_lt (k * w + j) ((k + 1) * w))
mask_whole w k x ones =
    ones_span w k (k * w) ((k + 1) * w) 0 w x (omega arith) (omega arith) (λ j index. is_one-ones x w j ones ∙ grind (arith, nat_tests))

module _ (m : Merge) (w : ℕ) where
  -- one span after another
  pub span_more : (a b c p q : ℕ) (ms ns rs : List ℕ) → a ≤ b → b ≤ c → p ≡ b → q ≡ c → IsMergedSpan m w a b ms ns → IsMergedSpan m w p q ns rs → IsMergedSpan m w a c ms rs
  span_more a b c p q ms ns rs le also from to first second = record {
    inside = λ i reached below. grind (arith, nat_tests, first.inside i reached, first.after i, second.before i, second.inside i);
    before = λ i below. second.before i (omega arith) ∙ first.before i below;
    after = λ i past. second.after i (omega arith) ∙ first.after i (omega arith);
  }

  -- a block that was merged with a mask: its values
  masked_value : (k a b mask : ℕ) (ms ns : List ℕ) → 0 < w
      → ((j : ℕ) → j < w → is_one (get_or ns k 0) j ≡ merge_of_values m (is_one (get_or ms k 0) j) (is_one mask j))
      → ((j : ℕ) → j < w → is_one mask j ≡ (nat_le a (k * w + j) && nat_lt (k * w + j) b)) → (i : ℕ) → i / w ≡ k
      → value_at w ns i ≡ merge_of_values m (value_at w ms i) (nat_le a i && nat_lt i b)
  masked_value k a b mask ms ns pos digits ones i here =
      let index : k * w + i % w ≡ i = ap (λ q. q * w + i % w) (sym here) ∙ div-add-mod' i w in
      let read = λ (xs : List ℕ). value_at-is w xs i ∙ ap (λ q. is_one (get_or xs q 0) (i % w)) here in
      read ns ∙ digits (i % w) (mod-lt i pos)
      ∙ ap (λ x. merge_of_values m x (is_one mask (i % w))) (sym (read ms))
      ∙ ap (merge_of_values m (value_at w ms i)) (ones (i % w) (mod-lt i pos) ∙ ap (λ x. nat_le a x && nat_lt x b) index)

  stays : (x : Bool) → merge_of_values m true false ≡ true → merge_of_values m x false ≡ x
  stays true keeps = keeps
  stays false keeps = merge_of_values-none m

  -- the mask's ones are a span of the block
  pub span_of_mask : (k a b mask : ℕ) (ms ns : List ℕ) → 0 < w → merge_of_values m true false ≡ true → k * w ≤ a
      → b ≤ (k + 1) * w → ((j : ℕ) → j < w → is_one (get_or ns k 0) j ≡ merge_of_values m (is_one (get_or ms k 0) j)
      (is_one mask j)) → ((q : ℕ) → q ≢ k → get_or ns q 0 ≡ get_or ms q 0)
      → ((j : ℕ) → j < w → is_one mask j ≡ (nat_le a (k * w + j) && nat_lt (k * w + j) b)) → IsMergedSpan m w a b ms ns
  span_of_mask k a b mask ms ns pos keeps from to digits others ones =
      let value = masked_value k a b mask ms ns pos digits ones in
      let other = λ (i : ℕ) (there : i / w ≢ k). value_at-is w ns i ∙ ap (λ x. is_one x (i % w)) (others (i / w) there) ∙ sym (value_at-is w ms i) in
      record {
        inside = λ i reached below. grind (arith, nat_tests, value i (in_block w k i (omega arith) (omega arith)));
        before = λ i below. grind (arith, nat_tests, value i, other i, stays (value_at w ms i) keeps);
        after = λ i past. grind (arith, nat_tests, value i, other i, stays (value_at w ms i) keeps);
      }

  none_of : (x : Bool) → merge_of_values m false true ≡ false → merge_of_values m false x ≡ false
  none_of true nothing = nothing
  none_of false nothing = merge_of_values-none m

  -- ---- whether true and the values of a span merge to false

  pub false-parts : (a b c p q : ℕ) (ms : List ℕ) → p ≡ b → q ≡ c → MergesSpanToFalse m w a b ms → MergesSpanToFalse m w p q ms → MergesSpanToFalse m w a c ms
  false-parts a b c p q ms from to first second = record { value = λ i reached below. grind (arith, nat_tests, first.value i reached, second.value i) }

  pub false-within : (a b p q : ℕ) (ms : List ℕ) → a ≤ p → q ≤ b → MergesSpanToFalse m w a b ms → MergesSpanToFalse m w p q ms
  false-within a b p q ms from to is = record { value = λ i reached below. is.value i (omega arith) (omega arith) }

  -- by a block and a mask, whose ones are the span
  pub false_of_mask : (k a b mask : ℕ) (ms : List ℕ) → 0 < w → merge_of_values m false true ≡ false → k * w ≤ a
      → b ≤ (k + 1) * w → ((j : ℕ) → j < w → is_one mask j ≡ (nat_le a (k * w + j) && nat_lt (k * w + j) b))
      → ((j : ℕ) → j < w → merge_of_values m (is_one mask j) (is_one (get_or ms k 0) j) ≡ false) ↔ MergesSpanToFalse m w a b ms
  false_of_mask k a b mask ms pos nothing from to ones = (
    λ zero. record {
      value = λ i reached below.
          let here = in_block w k i (omega arith) (omega arith) in
          let index : k * w + i % w ≡ i = ap (λ q. q * w + i % w) (sym here) ∙ div-add-mod' i w in
          let read : value_at w ms i ≡ is_one (get_or ms k 0) (i % w) = value_at-is w ms i ∙ ap (λ q. is_one (get_or ms q 0) (i % w)) here in
          grind (arith, nat_tests, zero (i % w) (mod-lt i pos), ones (i % w) (mod-lt i pos));
    },
    λ is j index.
        let read = value_at-index w ms k j index in
        let other : (x : Bool) → merge_of_values m false x ≡ false = λ x. none_of x nothing in
        grind (arith, nat_tests, ones j index, is.value (k * w + j), other (is_one (get_or ms k 0) j)),
  )
