-- A list of which one block was cut down to some of its ones.
use Rattle.std.{specs.Global.Vec, proofs.lemmas.{Bool.cases_eq, List.{get_or-set_other, get_or-set_same}}}
use Rattle.std.proofs.Common.{◌≡◌, ◌≢◌, ℕ, ◌+◌, ◌*◌, ◌/◌, ◌%◌, ◌<◌, false, not, ◌&&◌, ◌==◌, List, length, get_or, map, set, sym, ap, ◌∙◌, arith, ⊎_elim, mod-lt, div-add-mod', lt_of_mul-lt-mul_right}
use Rattle.bit_blocks.specs.{Bits.{Bits, blocks_for}, Digits.{IsBoth, is_one}, Storage.{value_at, values_of, IsPacked, IsZeroFrom, WritesInPlace, WritesValue, is_used}}
use Rattle.bit_words.{specs.{Kept.KeepsInBlock, Summary.IsSummary}, proofs.SummaryLemmas.summary_updated}
use Rattle.bit_blocks.proofs.{BitsLemmas.blocks_for-enough, Masks.is_one-both, StorageLemmas.{get_or-values_of_zero_tail, length-values_of, value_at-index, value_at-set_other}}

-- of the values of block k of the blocks ms those stayed true at which m has a 1
pub record KeptBlock (w k m : ℕ) (ms ns : List ℕ) : Type 0 where
  pub inside : (j : ℕ) → j < w → value_at w ns (k * w + j) ≡ (value_at w ms (k * w + j) && is_one m j)
  pub others : (i : ℕ) → i / w ≢ k → value_at w ns i ≡ value_at w ms i

pub kept_block : (w k m b old : ℕ) (ms ns : List ℕ) → k < length ms → old ≡ get_or ms k 0 → IsBoth w old m b → ns ≡ set ms k b → KeptBlock w k m ms ns
kept_block w k m b old ms ns within read both is = record {
  inside = λ j index.
      value_at-index w ns k j index
      ∙ ap (λ xs. is_one (get_or xs k 0) j) is
      ∙ ap (λ x. is_one x j) (get_or-set_same ms k b 0 within)
      ∙ is_one-both w old m b j both index
      ∙ ap (λ x. is_one x j && is_one m j) read
      ∙ ap (λ x. x && is_one m j) (sym (value_at-index w ms k j index));
  others = λ i other. ap (λ xs. value_at w xs i) is ∙ value_at-set_other w ms k b i other;
}

-- no value became true
pub kept_less : (w k m : ℕ) (ms ns : List ℕ) → 0 < w → KeptBlock w k m ms ns → (i : ℕ) → value_at w ms i ≡ false → value_at w ns i ≡ false
kept_less w k m ms ns pos kept i none =
    ⊎_elim
    (λ (here : i / w ≡ k).
    let at : k * w + i % w ≡ i = ap (λ q. q * w + i % w) (sym here) ∙ div-add-mod' i w in
    ap (value_at w ns) (sym at) ∙ kept.inside (i % w) (mod-lt i pos) ∙ ap (λ x. value_at w ms x && is_one m (i % w)) at ∙ ap (λ x. x && is_one m (i % w)) none)
    (λ other. kept.others i other ∙ none)
    (cases_eq (i / w) k)

-- and so none past the list
kept_tail : (w k m n : ℕ) (ms ns : List ℕ) → 0 < w → KeptBlock w k m ms ns → IsZeroFrom w ms n → IsZeroFrom w ns n
kept_tail w k m n ms ns pos kept tail = record { zero_tail = λ i past. kept_less w k m ms ns pos kept i (tail.zero_tail i past) }

pub kept_packed : {X : Type 0} (w k m n : ℕ) (f : X → ℕ) (P : X → Type 0) (xs ys : Vec X) → 0 < w → IsPacked w f P xs.items n → KeptBlock w k m (map f xs.items) (map f ys.items)
    → WritesInPlace P xs ys → IsPacked w f P ys.items n
kept_packed w k m n f P xs ys pos packed kept in_place = record {
  each = in_place.each;
  count = omega (arith, xs.ok.0, ys.ok.0, in_place.len, packed.count);
  tail = kept_tail w k m n (map f xs.items) (map f ys.items) pos kept packed.tail;
  fits = packed.fits;
}

pub kept_values : (w k m n r : ℕ) (ms ns : List ℕ)
    (v : Bits) → 0 < w → record { values = values_of w ms n; capacity = r } ≡ v → IsZeroFrom w ms n → KeptBlock w k m ms ns → KeepsInBlock w k m v.values (values_of w ns n)
kept_values w k m n r ms ns v pos view tail kept =
    let same : values_of w ms n ≡ v.values = ap (λ u. u.values) view in
    let after = kept_tail w k m n ms ns pos kept tail in
    rw (← same) (record {
      len = length-values_of w ns n ∙ sym (length-values_of w ms n);
      inside = λ j index.
          get_or-values_of_zero_tail w ns n (k * w + j) after
          ∙ kept.inside j index
          ∙ ap (λ x. x && is_one m j) (sym (get_or-values_of_zero_tail w ms n (k * w + j) tail));
      others = λ i other.
          get_or-values_of_zero_tail w ns n i after ∙ kept.others i other ∙ sym (get_or-values_of_zero_tail w ms n i tail);
    })

-- the summary, of which the bit of that block is set anew
pub kept_summary : {X : Type 0} (w k b : ℕ) (f : X → ℕ) (P : X → Type 0) (xs ys old new : Vec X) → k < length ys.items → map f ys.items ≡ set (map f xs.items) k b → WritesInPlace P xs ys
    → IsSummary w f P xs.items old.items
    → WritesValue w (map f old.items) (map f new.items) k (is_used (map f ys.items) k) → WritesInPlace P old new → IsSummary w f P ys.items new.items
kept_summary w k b f P xs ys old new within is in_place summary updated summary_in_place =
    let len : length ys.items ≡ length xs.items = omega (arith, xs.ok.0, ys.ok.0, in_place.len) in
    summary_updated w f P ys.items old new k within (rw len summary.packed)
    (λ q inside other.
    summary.digit q ∙ sym (ap (λ ms. is_used ms q) is ∙ ap (λ x. not (x == 0)) (get_or-set_other (map f xs.items) k q b 0 other)))
    updated summary_in_place

-- a block that begins before the end of the list is one of its blocks
pub block_inside : {X : Type 0} (w k n : ℕ) (f : X → ℕ) (P : X → Type 0) (xs : List X) → 0 < w → IsPacked w f P xs n → k * w < n → k < length xs
block_inside w k n f P xs pos packed begins =
    let whole : length xs * w ≡ blocks_for w n * w = ap (λ c. c * w) packed.count in
    lt_of_mul-lt-mul_right w (omega (arith, blocks_for-enough w n pos, whole, begins))
