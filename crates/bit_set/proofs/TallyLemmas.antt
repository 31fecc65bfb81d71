-- How many ones two lists of blocks have between them, as the values that they hold say it.
use Rattle.std.proofs.Common.{◌≡◌, ℕ, false, ◌+◌, ◌*◌, ◌/◌, ◌%◌, max, ◌<◌, ◌≤◌, List, map, length, get_or, sym, ap, ap₂, ◌∙◌, refl, arith, div-add-mod', mod-lt, mul-le-mul_right}
use Rattle.std.proofs.lemmas.{List.{ext_get_or, length-map, FromFn.{get_or-map-range_with_len, length-map-range_with_len}}, Nat.le-div}
use Rattle.bit_blocks.{specs.{Merges.merge_of, Storage.{value_at, values_of, IsZeroFrom}, declared.block.merge.Merge.Merge}, proofs.StorageLemmas.{value_at-index, value_at-past}}
use Rattle.bit_words.{specs.MergedOnes.merged_ones, proofs.MergedOnesLemmas.merged_trues}
use Rattle.set_algebra.{specs.Sets.elements, proofs.SetLemmas.length-elements}
use Rattle.bit_set.{specs.Indexes.values_in, proofs.{IndexLemmas.{length-values_in, value_in}, PairLemmas.both_held}}

-- the values of whole blocks, by their places
values_whole : (w : ℕ) (ms : List ℕ) → 0 < w → values_in w ms ≡ values_of w ms (length ms * w)
unfolding values_of
values_whole w ms pos =
    let n = length ms * w in
    let long = length-values_in w ms in
    ext_get_or false _ _ (long ∙ sym (length-map-range_with_len (value_at w ms) 0 n)) (λ i within.
    let split : i ≡ i / w * w + i % w = sym (div-add-mod' i w) in
    let low : i % w < w = mod-lt i pos in
    ap (λ k. get_or (values_in w ms) k false) split
    ∙ value_in w ms (i / w) (i % w) low
    ∙ sym (value_at-index w ms (i / w) (i % w) low)
    ∙ ap (value_at w ms) (sym split)
    ∙ sym (get_or-map-range_with_len (value_at w ms) 0 n i i false (omega (arith, long, within)) (omega arith)))

none_past : (w : ℕ) (ms : List ℕ) → 0 < w → IsZeroFrom w ms (length ms * w)
none_past w ms pos = record { zero_tail = λ i past. value_at-past w ms i (le-div (length ms) i w pos past) }

pub merged_elements : {X : Type 0} (w : ℕ) (number : X → ℕ) (merge : Merge) (xs ys : List X) → 0 < w
    → merged_ones merge w (map number xs) (map number ys) 0 (max (length xs) (length ys)) ≡ length (elements (both_held w number merge xs ys))
merged_elements w number merge xs ys pos =
    let ms = map number xs in
    let ns = map number ys in
    let first : length xs * w ≤ max (length xs) (length ys) * w = mul-le-mul_right w (omega arith) in
    let second : length ys * w ≤ max (length xs) (length ys) * w = mul-le-mul_right w (omega arith) in
    let enough : max (length ms * w) (length ns * w) ≤ max (length xs) (length ys) * w = omega (arith, first, second, ap (λ k. k * w) (length-map xs number), ap (λ k. k * w) (length-map ys number)) in
    merged_trues merge w (length ms * w) (length ns * w) 0 0 (max (length xs) (length ys)) ms ns _ _ refl refl (none_past w ms pos) (none_past w ns pos) enough
    ∙ sym (length-elements (merge_of merge (values_of w ms (length ms * w)) (values_of w ns (length ns * w))))
    ∙ ap₂ (λ bs cs. length (elements (merge_of merge bs cs))) (sym (values_whole w ms pos)) (sym (values_whole w ns pos))
