-- Blocks that were put over others, the summary that follows them, and the list that they hold.
use Rattle.std.specs.Global.{Vec}
use Rattle.std.proofs.Common.{◌≡◌, ℕ, ◌+◌, ◌-◌, ◌*◌, ◌/◌, ◌%◌, ◌<◌, ◌≤◌, min, false, List, ◌++◌, All, length, get_or, map, take, drop, refl, sym, ap, ◌∙◌, subst, arith, ⊎_elim}
use Rattle.std.proofs.Common.{div-lt_iff_lt-mul, get_or-append-add, length-drop, mul-le-mul_right, take-append-drop, vec_len}
use Rattle.std.proofs.lemmas.{Bool.{Decides.nat_tests, cases_lt}, List.{get_or_append_left, get_or-append_right, length-map, length-take-le, map-append, Elements.{All-append, All-drop, All-take}}}
use borrow.Rule.Slice.PartMut.{put_mid}
use Rattle.bit_blocks.specs.{Bits.{Bits, blocks_for}, Digits.is_one, Ranges.in_range, Storage.{value_at, values_of, IsPacked, IsZeroFrom, WritesInPlace}}
use Rattle.bit_words.specs.{Kept.{IsPut, PutsBlocks}, Summary.IsFalseBefore}
use Rattle.bit_blocks.proofs.{BitsLemmas.blocks_for-enough, ChangeLemmas.div_lt, StorageLemmas.{get_or-values_of_zero_tail, length-values_of, value_at-index, value_at-is}}

-- ---- the blocks

put_parts : (front mid ps rs : List ℕ) → length mid ≡ length ps → IsPut (length front) ps (front ++ (mid ++ rs)) (front ++ (ps ++ rs))
put_parts front mid ps rs long = record {
  inside = λ q below. get_or-append-add front (ps ++ rs) q 0 ∙ get_or_append_left ps rs 0 q below;
  others = λ q apart.
      ⊎_elim
      (λ (low : q < length front). get_or_append_left front (ps ++ rs) 0 q low ∙ sym (get_or_append_left front (mid ++ rs) 0 q low))
      (λ (high : length front ≤ q).
      let past : length ps ≤ q - length front = grind (arith, nat_tests) in
      get_or-append_right front (ps ++ rs) (length front) q 0 refl high
      ∙ get_or-append_right ps rs (length ps) (q - length front) 0 refl past
      ∙ sym (get_or-append_right front (mid ++ rs) (length front) q 0 refl high ∙ get_or-append_right mid rs (length ps) (q - length front) 0 long past))
      (cases_lt q (length front));
}

-- the middle of a list, over which others were written
pub put_middle : {X : Type 0} (f : X → ℕ) (k n : ℕ) (xs ps : List X) → n ≡ length ps → k + n ≤ length xs → IsPut k (map f ps) (map f xs) (map f (put_mid k n xs ps))
put_middle f k n xs ps many within =
    let front = map f (take k xs) in
    let mid = map f (take n (drop k xs)) in
    let rs = map f (drop n (drop k xs)) in
    let new = put_mid k n xs ps in
    let begins : length front ≡ k = length-map _ _ ∙ length-take-le k xs (omega (arith, within)) in
    let long : length mid ≡ length (map f ps) = length-map _ _ ∙ length-take-le n (drop k xs) (omega (arith, length-drop k xs, within)) ∙ many ∙ sym (length-map _ _) in
    let whole : map f xs ≡ front ++ (mid ++ rs) =
    ap (map f) (sym (take-append-drop k xs) ∙ ap (λ l. take k xs ++ l) (sym (take-append-drop n (drop k xs))))
    ∙ map-append f (take k xs) _ ∙ ap (λ l. front ++ l) (map-append f (take n (drop k xs)) _) in
    let joined : map f new ≡ front ++ (map f ps ++ rs) = map-append f (take k xs) _ ∙ ap (λ l. front ++ l) (map-append f ps _) in
    subst (λ j. IsPut j (map f ps) (map f xs) (map f new)) begins
    (subst (λ l. IsPut (length front) (map f ps) l (map f new)) (sym whole)
    (subst (λ l. IsPut (length front) (map f ps) (front ++ (mid ++ rs)) l) (sym joined) (put_parts front mid (map f ps) rs long)))

pub each_put : {X : Type 0} (P : X → Type 0) (k n : ℕ) (xs ps : List X) → All P xs → All P ps → All P (put_mid k n xs ps)
each_put P k n xs ps each more =
    All-append P (take k xs) _ (All-take P k xs each) (All-append P ps _ more (All-drop P n (drop k xs) (All-drop P k xs each)))

-- ---- the list that they hold

module _ (w k : ℕ) (ps ms ns : List ℕ) (pos : 0 < w) (put : IsPut k ps ms ns) where
  value_inside : (q j : ℕ) → q < length ps → j < w → value_at w ns ((k + q) * w + j) ≡ is_one (get_or ps q 0) j
  value_inside q j below index = value_at-index w ns (k + q) j index ∙ ap (λ m. is_one m j) (put.inside q below)

  block_apart : (i : ℕ) → in_range (k * w) ((k + length ps) * w) i ≡ false → in_range k (k + length ps) (i / w) ≡ false
  block_apart i apart =
      let reached : i < k * w → i / w < k = λ low. (div-lt_iff_lt-mul pos).1 low in
      let within : i / w < k + length ps → i < (k + length ps) * w = λ high. (div-lt_iff_lt-mul pos).0 high in
      grind (arith, nat_tests, reached, within)

  value_other : (i : ℕ) → in_range k (k + length ps) (i / w) ≡ false → value_at w ns i ≡ value_at w ms i
  value_other i apart = value_at-is w ns i ∙ ap (λ m. is_one m (i % w)) (put.others (i / w) apart) ∙ sym (value_at-is w ms i)

  -- what is past a list that reaches so far stays 0
  put_tail : (n : ℕ) → (k + length ps) * w ≤ n → IsZeroFrom w ms n → IsZeroFrom w ns n
  put_tail n reaches tail = record { zero_tail = λ i past. value_other i (block_apart i (grind (arith, nat_tests))) ∙ tail.zero_tail i past }

  -- a search may start before the first of them, and where it could before
  pub put_start : (start : ℕ) → IsFalseBefore w ms start → IsFalseBefore w ns (min start (k / w))
  put_start start before = record {
    falses = λ i low.
        let early : i / w < k = div_lt w (i / w) k pos (omega (arith, low)) in
        value_other i (grind (arith, nat_tests)) ∙ before.falses i (omega (arith, low));
  }

  pub put_values : (n r : ℕ) (v : Bits) → record { values = values_of w ms n; capacity = r } ≡ v → (k + length ps) * w ≤ n → IsZeroFrom w ms n → PutsBlocks w k ps v.values (values_of w ns n)
  put_values n r v view reaches tail =
      let same : values_of w ms n ≡ v.values = ap (λ u. u.values) view in
      let after = put_tail n reaches tail in
      rw (← same) (record {
        len = length-values_of w ns n ∙ sym (length-values_of w ms n);
        inside = λ q j below index. get_or-values_of_zero_tail w ns n ((k + q) * w + j) after ∙ value_inside q j below index;
        others = λ i apart. get_or-values_of_zero_tail w ns n i after ∙ value_other i (block_apart i apart) ∙ sym (get_or-values_of_zero_tail w ms n i tail);
      })

pub put_packed : {X : Type 0} (w k n : ℕ) (f : X → ℕ) (P : X → Type 0) (xs ys : Vec X) (ps : List ℕ) → 0 < w → (k + length ps) * w ≤ n → IsPacked w f P xs.items n
    → IsPut k ps (map f xs.items) (map f ys.items) → WritesInPlace P xs ys → IsPacked w f P ys.items n
put_packed w k n f P xs ys ps pos reaches packed put in_place = record {
  each = in_place.each;
  count = omega (arith, xs.ok.0, ys.ok.0, in_place.len, packed.count);
  tail = put_tail w k ps (map f xs.items) (map f ys.items) pos put n reaches packed.tail;
  fits = packed.fits;
}

-- blocks within the list are some of those that it has
pub put_within : {X : Type 0} (w c n : ℕ) (f : X → ℕ) (P : X → Type 0) (xs : Vec X) → 0 < w → c * w ≤ n → IsPacked w f P xs.items n → c ≤ vec_len xs
put_within w c n f P xs pos within packed =
    let whole : vec_len xs * w ≡ blocks_for w n * w = ap (λ c. c * w) (omega (arith, xs.ok.0, packed.count)) in
    ⊎_elim
    (λ (few : vec_len xs < c). let more = mul-le-mul_right w few in absurd (omega (arith, more, blocks_for-enough w n pos, whole, within)))
    (λ enough. enough)
    (cases_lt (vec_len xs) c)
