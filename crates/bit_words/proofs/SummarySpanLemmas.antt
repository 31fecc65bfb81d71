-- The summary of blocks that were merged with a span.
use Rattle.std.{specs.{Global.Vec, Vec.vec_len}, proofs.Common.div-lt_iff_lt-mul}
use Rattle.std.proofs.Common.{◌≡◌, ◌≢◌, ℕ, ◌+◌, ◌-◌, ◌*◌, ◌/◌, ◌%◌, ◌^◌, ◌<◌, ◌≤◌, Bool, true, false, List, map, length, get_or, set, min, max, sym, ap, ◌∙◌, arith, mod-lt, div-add-mod'}
use Rattle.bit_blocks.specs.{declared.block.merge.Merge.Merge, Bits.blocks_for, BlockMerges.IsMergedSpan, Digits.is_one, Merges.merge_of_values}
use Rattle.bit_blocks.specs.Storage.{value_at, IsPacked, WritesInPlace, WritesValue, is_used}
use Rattle.bit_words.specs.Summary.{IsSummary}
use Rattle.bit_blocks.proofs.{BitsLemmas.{blocks_for-above, blocks_for-enough, index_below}, ChangeLemmas.{written_same, written_other}, StorageLemmas.value_at-is}
use Rattle.bit_blocks.proofs.UseLemmas.{same_use, used_from_true, unused_from_false}

module _ (m : Merge) (w : ℕ) where
  -- a block before the first of the span, or past its last, is what it was
  pub use_before : (a b k : ℕ) (ms ns : List ℕ) → get_or ms k 0 < 2 ^ w → get_or ns k 0 < 2 ^ w → IsMergedSpan m w a b ms ns → k < a / w → is_used ns k ≡ is_used ms k
  use_before a b k ms ns small also is below =
      sym (same_use w ms ns k small also (λ j index. sym (is.before (k * w + j) (index_below w k j a index below))))

  pub use_after : (a b k : ℕ) (ms ns : List ℕ) → 0 < w → get_or ms k 0 < 2 ^ w → get_or ns k 0 < 2 ^ w → IsMergedSpan m w a b ms ns → (b - 1) / w < k → is_used ns k ≡ is_used ms k
  use_after a b k ms ns pos small also is past =
      let start = (div-lt_iff_lt-mul pos).0 past in
      sym (same_use w ms ns k small also (λ j index. sym (is.after (k * w + j) (omega (arith, start)))))

  -- between these each value is what true makes of any
  pub use_within : (a b k : ℕ) (ms ns : List ℕ) (bit : Bool) → 0 < w → get_or ns k 0 < 2 ^ w → ((x : Bool) → merge_of_values m x true ≡ bit) → IsMergedSpan m w a b ms ns → a / w < k
      → k < (b - 1) / w → is_used ns k ≡ bit
  use_within a b k ms ns true pos small each is past below =
      let start = (div-lt_iff_lt-mul pos).0 past in
      used_from_true w ns k 0 pos (is.inside (k * w + 0) (omega (arith, start)) (omega (arith, index_below w k 0 (b - 1) pos below)) ∙ each _)
  use_within a b k ms ns false pos small each is past below =
      let start = (div-lt_iff_lt-mul pos).0 past in
      unused_from_false w ns k small (λ j index. is.inside (k * w + j) (omega (arith, start)) (omega (arith, index_below w k j (b - 1) index below)) ∙ each _)

  -- the bits of these blocks in the summary, once they are merged in one span too: right but at both ends
  pub filled_use : (a b first last : ℕ) (ms ns ss ts : List ℕ) (bit : Bool) → 0 < w → ((q : ℕ) → get_or ms q 0 < 2 ^ w) → ((q : ℕ) → get_or ns q 0 < 2 ^ w) → first ≡ a / w
      → last ≡ (b - 1) / w → ((x : Bool) → merge_of_values m x true ≡ bit) → IsMergedSpan m w a b ms ns → ((q : ℕ) → value_at w ss q ≡ is_used ms q)
      → IsMergedSpan m w first (last + 1) ss ts → (k : ℕ) → k ≢ first → k ≢ last → value_at w ts k ≡ is_used ns k
  filled_use a b first last ms ns ss ts bit pos small also from to each is said told k not_first not_last =
      grind (arith, told.inside k, told.before k, told.after k, said k, each (value_at w ss k), use_before a b k ms ns (small k) (also k) is, use_after a b k ms ns pos (small k) (also k) is, use_within a b k ms ns bit pos (also k) each is)

  -- the summary whose bits of these blocks are made anew
  pub anew_use : (a b first last : ℕ) (ms ns ss ts : List ℕ) → 0 < w → ((q : ℕ) → get_or ms q 0 < 2 ^ w) → ((q : ℕ) → get_or ns q 0 < 2 ^ w) → first ≡ a / w → last ≡ (b - 1) / w
      → IsMergedSpan m w a b ms ns → ((q : ℕ) → value_at w ss q ≡ is_used ms q) → ((k : ℕ) → first ≤ k → k < last + 1 → value_at w ts k ≡ is_used ns k)
      → ((k : ℕ) → k < first → value_at w ts k ≡ value_at w ss k) → ((k : ℕ) → last + 1 ≤ k → value_at w ts k ≡ value_at w ss k) → (k : ℕ) → value_at w ts k ≡ is_used ns k
  anew_use a b first last ms ns ss ts pos small also from to is said made before after k =
      grind (arith, said k, made k, before k, after k, use_before a b k ms ns (small k) (also k) is, use_after a b k ms ns pos (small k) (also k) is)

-- and then those at the ends are written
pub ends_written : (w first last : ℕ) (ns ss ts us : List ℕ) → ((k : ℕ) → k ≢ first → k ≢ last → value_at w ss k ≡ is_used ns k) → WritesValue w ss ts first (is_used ns first)
    → WritesValue w ts us last (is_used ns last) → (k : ℕ) → value_at w us k ≡ is_used ns k
ends_written w first last ns ss ts us right one two k = grind (arith, right k, one.same, one.others k, two.same, two.others k)

-- ---- a block of the summary, whose bits of a span of blocks are made anew

module _ (w first end q start index count : ℕ) (ms ss ts : List ℕ) (n : ℕ) (pos : 0 < w) (put : ts ≡ set ss q n) (inside : q < length ss) (begins : first / w ≤ q)
    (from : start ≡ max first (q * w)) (at : index ≡ start - q * w) (many : count ≡ min (end - start) (w - index)) (forward : start ≤ end) where
  -- the bits of the span
  pub made_bit : ((j : ℕ) → j < count → is_one n (index + j) ≡ is_used ms (start + j)) → (k : ℕ) → k / w ≡ q → first ≤ k → k < end → value_at w ts k ≡ is_used ms k
  made_bit made k here low high =
      let j = k % w in
      let whole : q * w + j ≡ k = ap (λ p. p * w + j) (sym here) ∙ div-add-mod' k w in
      let small : j < w = mod-lt k pos in
      let place : index + (j - index) ≡ j = omega arith in
      let block : start + (j - index) ≡ k = omega arith in
      written_same w ss ts q n k put inside here ∙ rw (place, block) at (made (j - index) (omega arith))

  -- those before it
  pub bit_below : ((j : ℕ) → j < index → is_one n j ≡ is_one (get_or ss q 0) j) → (k : ℕ) → k < first → value_at w ts k ≡ value_at w ss k
  bit_below below k low = grind (arith, written_same w ss ts q n k put inside, written_other w ss ts q n k put, below (k % w), mod-lt k pos, div-add-mod' k w, value_at-is w ss k)

  -- and those past it
  pub bit_above : ((j : ℕ) → index + count ≤ j → j < w → is_one n j ≡ is_one (get_or ss q 0) j) → (k : ℕ) → end ≤ k → value_at w ts k ≡ value_at w ss k
  bit_above above k high = grind (arith, written_same w ss ts q n k put inside, written_other w ss ts q n k put, above (k % w), mod-lt k pos, div-add-mod' k w, value_at-is w ss k)

-- ---- the list and its summary

-- a block has its bit in the summary
pub in_chunks : {X : Type 0} (w k : ℕ) (f : X → ℕ) (P : X → Type 0) (xs summary : List X) → 0 < w → IsSummary w f P xs summary → k < length xs → k / w < length summary
in_chunks w k f P xs summary pos is within = omega (arith, blocks_for-above w (length xs) k pos within, is.packed.count)

-- a span in the list leaves it packed
pub span_packed : {X : Type 0} (m : Merge) (w a b n : ℕ) (f : X → ℕ) (P : X → Type 0) (xs ys : Vec X) → b ≤ n → IsPacked w f P xs.items n
    → IsMergedSpan m w a b (map f xs.items) (map f ys.items) → WritesInPlace P xs ys → IsPacked w f P ys.items n
span_packed m w a b n f P xs ys within packed is in_place = record {
  each = in_place.each;
  count = omega (arith, xs.ok.0, ys.ok.0, in_place.len, packed.count);
  tail = record { zero_tail = λ i past. is.after i (omega arith) ∙ packed.tail.zero_tail i past };
  fits = packed.fits;
}

-- the blocks of a list reach as far as it does
pub end_in_blocks : {X : Type 0} (w b n : ℕ) (f : X → ℕ) (P : X → Type 0) (xs : Vec X) → 0 < w → b ≤ n → IsPacked w f P xs.items n → b ≤ vec_len xs * w
end_in_blocks w b n f P xs pos within packed =
    let whole : vec_len xs * w ≡ blocks_for w n * w = ap (λ c. c * w) (omega (arith, xs.ok.0, packed.count)) in
    omega (arith, blocks_for-enough w n pos, whole)
