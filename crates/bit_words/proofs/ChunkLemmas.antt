-- What a merge of the blocks of a chunk makes of the list and of its summary.
use Rattle.std.proofs.Common.{◌≡◌, refl, ℕ, ◌+◌, ◌*◌, ◌/◌, ◌%◌, ◌<◌, ◌≤◌, min, Bool, true, false, not, ◌==◌, List}
use Rattle.std.proofs.Common.{map, length, get_or, set, take, All, sym, ap, ap₂, ◌∙◌, arith, ⊎_elim, mod-lt}
use Rattle.std.proofs.Common.{length-take, div-lt_iff_lt-mul, get_or-set_same, get_or-set_other, mul-le-mul_right}
use Rattle.std.proofs.Math.Bool.{and-true, or-false}
use Rattle.std.proofs.lemmas.{Bool.{cases_eq, cases_lt}, List.{get_or_past, length-map, take-map}}
use Rattle.bit_blocks.specs.{Bits.{Bits, blocks_for}, Digits.is_one, BlockMerges.{other_at, HasMerged}}
use Rattle.bit_blocks.specs.{Merges.merge_of_values, Storage.{value_at, values_of, IsPacked, IsZeroFrom, is_used}}
use Rattle.bit_blocks.specs.declared.block.merge.Merge.{Merge, TheVariants.{Difference, Intersection, Symmetric, Union}}
use Rattle.bit_blocks.proofs.{BitsLemmas.{block_past, blocks_for-below}, Masks.is_one-zero, StorageLemmas.value_at-past}
use Rattle.bit_blocks.proofs.{MergeLemmas.merge_of_values-none, PackedLemmas.value_at-take}
use Rattle.bit_blocks.proofs.StorageLemmas.{get_or-values_of_zero_tail, length-values_of, value_at-index, value_at-is}
use Rattle.bit_words.{specs.{Chunks.MergesBetween, Summary.IsSummary}, proofs.SummaryLemmas.summary_of_blocks}

-- ---- the blocks

-- past the end of the list there are none to merge
pub merged_past : {X : Type 0} (m : Merge) (w start end wide : ℕ) (f : X → ℕ) (P : X → Type 0) (xs os ys : List X)
    → end ≤ wide → (end < wide → length xs ≤ end) → length os ≤ length xs
    → HasMerged m w f P start end (other_at (map f os)) xs ys
    → HasMerged m w f P start wide (other_at (map f os)) xs ys
merged_past m w start end wide f P xs os ys le past fewer is = record {
  digit = λ k j from below index.
      ⊎_elim
      (λ early. is.digit k j from early index)
      (λ late.
      let mine : get_or (map f xs) k 0 ≡ 0 = get_or_past (map f xs) k 0 (rw length-map (omega (arith, past, late, below))) in
      let other : get_or (map f os) k 0 ≡ 0 = get_or_past (map f os) k 0 (rw length-map (omega (arith, past, late, below, fewer))) in
      ap (λ n. is_one n j) (is.after k late ∙ mine)
      ∙ is_one-zero j
      ∙ sym (ap₂ (merge_of_values m) (ap (λ n. is_one n j) mine ∙ is_one-zero j) (ap (λ n. is_one n j) other ∙ is_one-zero j) ∙ merge_of_values-none m))
      (cases_lt k end);
  before = is.before;
  after = λ k beyond. is.after k (omega (arith, le, beyond));
  each = is.each;
  len = is.len;
}

-- ---- the values

module _ {X : Type 0} (m : Merge) (w start end len short count : ℕ) (f : X → ℕ) (P : X → Type 0) (xs os ys : List X)
    (pos : 0 < w) (first : IsPacked w f P xs len) (second : IsPacked w f P os short)
    (most : count ≡ min (length xs) (length os)) (fits : len < short → merge_of_values m false true ≡ false)
    (is : HasMerged m w f P start end (other_at (map f (take count os))) xs ys) where
  -- past the end of the list nothing comes
  none_past : (i : ℕ) → len ≤ i → merge_of_values m false (value_at w (map f os) i) ≡ false
  none_past i past = grind (arith, second.tail.zero_tail i, merge_of_values-none m)

  -- the others past its blocks are not read
  cut : (i : ℕ) → merge_of_values m (value_at w (map f xs) i) (value_at w (map f (take count os)) i) ≡ merge_of_values m (value_at w (map f xs) i) (value_at w (map f os) i)
  cut i =
      let own = map f xs in
      let taken : value_at w (map f (take count os)) i ≡ value_at w (take count (map f os)) i = ap (λ ns. value_at w ns i) (sym (take-map f count os)) in
      ⊎_elim
      (λ (early : i / w < count). ap (merge_of_values m (value_at w own i)) (taken ∙ value_at-take w count (map f os) i early))
      (λ (late : count ≤ i / w).
      let none : value_at w (map f (take count os)) i ≡ false = value_at-past w _ i (rw length-map (omega (arith, length-take count os))) in
      ⊎_elim
      (λ (here : i / w < length os).
      let past : length xs ≤ i / w = omega arith in
      let mine : value_at w own i ≡ false = value_at-past w own i (rw length-map past) in
      let beyond : len ≤ i = blocks_for-below w len i pos (omega (arith, first.count, past)) in
      ap₂ (merge_of_values m) mine none ∙ merge_of_values-none m ∙ sym (ap (λ b. merge_of_values m b (value_at w (map f os) i)) mine ∙ none_past i beyond))
      (λ (nowhere : length os ≤ i / w). ap (merge_of_values m (value_at w own i)) (none ∙ sym (value_at-past w (map f os) i (rw length-map nowhere))))
      (cases_lt (i / w) (length os)))
      (cases_lt (i / w) count)

  inside : (i : ℕ) → start * w ≤ i → i < end * w → value_at w (map f ys) i ≡ merge_of_values m (value_at w (map f xs) i) (value_at w (map f os) i)
  inside i from below =
      value_at-is w (map f ys) i
      ∙ is.digit (i / w) (i % w) (block_past w start i pos from) ((div-lt_iff_lt-mul pos).1 below) (mod-lt i pos)
      ∙ sym (ap₂ (merge_of_values m) (value_at-is w (map f xs) i) (value_at-is w (map f (take count os)) i))
      ∙ cut i

  before : (i : ℕ) → i < start * w → value_at w (map f ys) i ≡ value_at w (map f xs) i
  before i early =
      value_at-is w (map f ys) i ∙ ap (λ n. is_one n (i % w)) (is.before (i / w) ((div-lt_iff_lt-mul pos).1 early)) ∙ sym (value_at-is w (map f xs) i)

  after : (i : ℕ) → end * w ≤ i → value_at w (map f ys) i ≡ value_at w (map f xs) i
  after i late =
      value_at-is w (map f ys) i ∙ ap (λ n. is_one n (i % w)) (is.after (i / w) (block_past w end i pos late)) ∙ sym (value_at-is w (map f xs) i)

  -- nor does a value come past the end of the list
  tail : IsZeroFrom w (map f ys) len
  tail = record {
    zero_tail = λ i past.
        let mine = first.tail.zero_tail i past in
        ⊎_elim
        (λ early. before i early ∙ mine)
        (λ from.
        ⊎_elim
        (λ below. inside i from below ∙ ap (λ b. merge_of_values m b (value_at w (map f os) i)) mine ∙ none_past i past)
        (λ late. after i late ∙ mine)
        (cases_lt i (end * w)))
        (cases_lt i (start * w));
  }

  pub chunk_packed : IsPacked w f P ys len
  chunk_packed = record { each = is.each; count = is.len ∙ first.count; tail = tail; fits = first.fits }

  pub chunk_values : (r s : ℕ) (v u : Bits) → record { values = values_of w (map f xs) len; capacity = r } ≡ v
      → record { values = values_of w (map f os) short; capacity = s } ≡ u
      → MergesBetween m (start * w) (end * w) v.values u.values (values_of w (map f ys) len)
  chunk_values r s v u view other_view =
      let mine : values_of w (map f xs) len ≡ v.values = ap (λ b. b.values) view in
      let theirs : values_of w (map f os) short ≡ u.values = ap (λ b. b.values) other_view in
      let new = λ (i : ℕ). get_or-values_of_zero_tail w (map f ys) len i tail in
      let old = λ (i : ℕ). get_or-values_of_zero_tail w (map f xs) len i first.tail in
      let other = λ (i : ℕ). get_or-values_of_zero_tail w (map f os) short i second.tail in
      rw (← mine, ← theirs) (record {
        len = length-values_of w (map f ys) len ∙ sym (length-values_of w (map f xs) len);
        inside = λ i from below. new i ∙ inside i from below ∙ sym (ap₂ (merge_of_values m) (old i) (other i));
        before = λ i early. new i ∙ before i early ∙ sym (old i);
        after = λ i late. new i ∙ after i late ∙ sym (old i);
      })

-- where the other has no value of the chunk, only an intersection changes one
kept_by_none : (m : Merge) (a : Bool) → (m ≡ Intersection → ⊥) → merge_of_values m a false ≡ a
kept_by_none Union a other = or-false a
kept_by_none Intersection a other = absurd (other refl)
kept_by_none Difference a other = and-true a
kept_by_none Symmetric a other = grind arith

pub chunk_kept : (m : Merge) (start end : ℕ) (xs ys : List Bool) → (m ≡ Intersection → ⊥) → length ys ≤ start → MergesBetween m start end xs ys xs
chunk_kept m start end xs ys other past = record {
  len = refl;
  inside = λ i from below.
      sym (ap (merge_of_values m (get_or xs i false)) (get_or_past ys i false (omega arith)) ∙ kept_by_none m (get_or xs i false) other);
  before = λ i early. refl;
  after = λ i late. refl;
}

-- ---- the summary

-- one block of it is made anew
pub chunk_summary : {X : Type 0} (m : Merge) (w q n : ℕ) (f : X → ℕ) (P : X → Type 0) (other : ℕ → ℕ → Bool) (xs ys ss ts : List X)
    → 0 < w → HasMerged m w f P (q * w) ((q + 1) * w) other xs ys → IsSummary w f P xs ss → q < length ss
    → map f ts ≡ set (map f ss) q n → All P ts → length ts ≡ length ss
    → ((j : ℕ) → j < w → is_one n j ≡ is_used (map f ys) (q * w + j)) → IsSummary w f P ys ts
chunk_summary m w q n f P other xs ys ss ts pos is summary within put each len digits =
    let old = summary.packed in
    summary_of_blocks w f P ys ts pos each (len ∙ old.count ∙ ap (blocks_for w) (sym is.len)) (omega (arith, old.fits, is.len)) (λ r j below index.
    ⊎_elim
    (λ here.
    ap (λ x. is_one x j) (ap (λ ns. get_or ns r 0) put ∙ ap (λ x. get_or (set (map f ss) q n) x 0) here ∙ get_or-set_same (map f ss) q n 0 (rw length-map within))
    ∙ digits j index
    ∙ ap (λ x. is_used (map f ys) (x * w + j)) (sym here))
    (λ apart.
    let kept : get_or (map f ys) (r * w + j) 0 ≡ get_or (map f xs) (r * w + j) 0 =
    ⊎_elim
    (λ early. is.before (r * w + j) (omega (arith, index, mul-le-mul_right w (let l : r + 1 ≤ q = omega arith in l))))
    (λ late. is.after (r * w + j) (omega (arith, mul-le-mul_right w (let l : q + 1 ≤ r = omega (arith, apart) in l))))
    (cases_lt r q) in
    ap (λ x. is_one x j) (ap (λ ns. get_or ns r 0) put ∙ get_or-set_other (map f ss) q r n 0 apart)
    ∙ sym (value_at-index w (map f ss) r j index)
    ∙ summary.digit (r * w + j)
    ∙ ap (λ x. not (x == 0)) (sym kept))
    (cases_eq r q))
