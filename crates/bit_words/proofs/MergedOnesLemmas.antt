-- How many values of the merge of two lists of blocks are true, block by block.
use Rattle.std.proofs.Common.{◌≡◌, ◌≢◌, ℕ, zero, suc, ◌+◌, ◌-◌, ◌*◌, ◌/◌, ◌^◌, ◌<◌, ◌≤◌, ◌==◌, ◌||◌, ◌&&◌, if◌then◌else◌, Bool, true, false, not, cond, max, List, map, drop, take, length, get_or, count_ones, refl}
use Rattle.std.proofs.Common.{sym, ap, ap₂, ◌∙◌, ⊎_elim, arith, pow_pos, mul-le-mul_right}
use Rattle.std.proofs.lemmas.Bool.{cases_eq, cases_lt, false≢true, Decides.nat_tests}
use Rattle.std.proofs.lemmas.{List.{drop_all, ext_get_or, length-drop, length-map, length-take, take-map, take_all, FromFn.{get_or-map-range_with_len, length-map-range_with_len}, Sums.{count_by-le-length, sum_by-cons}}, Nat.{div_below, le-div}}
use Rattle.std.specs.List.{count_by, range_with_len, sum_by}
use Rattle.bit_blocks.specs.{declared.block.merge.Merge.Merge, Bits.Bits, BlockMerges.MergesToFalse, Digits.is_one, Lowest.{IsLowest, IsCleared}}
use Rattle.bit_blocks.specs.{Merges.{merge_of, merge_of_values}, Storage.{ones_in, values_of, value_at, is_used, IsZeroFrom}}
use Rattle.bit_blocks.proofs.{CompareLemmas.{digit_from_zero, value_in_view, zero_from_digits}, LowestLemmas.ones_zero, Masks.is_one-zero, MergeLemmas.{get_or-merged, length-merged, merge_of_values-none}}
use Rattle.bit_blocks.proofs.{SpanCountLemmas.{count-parts, ones_of_blocks, ones_of_span, sum-parts}, StorageLemmas.{value_at-index, value_at-past}, UseLemmas.{used_past, zero_from_unused}}
use Rattle.bit_blocks.proofs.{PackedLemmas.value_at-take, VectorLemmas.{length_from_view}}
use Rattle.bit_words.specs.MergedOnes.{may_merge, merged_at, merged_ones, CoversChunks, CoversMerged}
use Rattle.bit_words.proofs.RangeQueryLemmas.{trues_of_map}

-- ---- sums over a range

sums_same : (f g : ℕ → ℕ) (a n : ℕ) → ((i : ℕ) → a ≤ i → i < a + n → f i ≡ g i) → sum_by f (range_with_len a n) ≡ sum_by g (range_with_len a n)
sums_same f g a zero same = refl
sums_same f g a (suc n) same =
    omega (arith, same a (omega arith) (omega arith), sums_same f g (a + 1) n (λ i from below. same i (omega arith) (omega arith)), sum_by-cons f a (range_with_len (a + 1) n), sum_by-cons g a (range_with_len (a + 1) n))

sum_none : (f : ℕ → ℕ) (a n : ℕ) → ((i : ℕ) → a ≤ i → i < a + n → f i ≡ 0) → sum_by f (range_with_len a n) ≡ 0
sum_none f a zero none = refl
sum_none f a (suc n) none =
    omega (arith, none a (omega arith) (omega arith), sum_none f (a + 1) n (λ i from below. none i (omega arith) (omega arith)), sum_by-cons f a (range_with_len (a + 1) n))

sum_one : (f : ℕ → ℕ) (a : ℕ) → sum_by f (range_with_len a 1) ≡ f a
sum_one f a = omega (arith, sum_by-cons f a (range_with_len (a + 1) 0))

count_none : (f : ℕ → Bool) (a n : ℕ) → ((i : ℕ) → a ≤ i → i < a + n → f i ≡ false) → count_by f (range_with_len a n) ≡ 0
count_none f a n none = sum_none (λ i. cond (f i) 1 0) a n (λ i from below. ap (λ b. cond b 1 0) (none i from below))

abbrev one_if : Bool → ℕ
one_if b = cond b 1 0

count_some : (f : ℕ → Bool) (a n i : ℕ) → f i ≡ true → a ≤ i → i < a + n → 0 < count_by f (range_with_len a n)
count_some f a n i is from below =
    let one : one_if (f i) ≡ 1 = ap one_if is in
    omega (
      arith,
      one,
      ap (λ m. count_by f (range_with_len a m)) (let e : a + n - a ≡ n = omega arith in e),
      count-parts f a i (a + n) from (omega arith),
      count-parts f i (i + 1) (a + n) (omega arith) (omega arith),
      ap (λ m. count_by f (range_with_len i m)) (let e : i + 1 - i ≡ 1 = omega arith in e),
      sum_one (λ j. one_if (f j)) i,
    )

no_true : (b : Bool) → (b ≡ true → ⊥) → b ≡ false
no_true b not_true = grind (arith, not_true)

-- ---- the digits of a number that are left to be taken, each counted by a function

pub left_of : (ℕ → ℕ) → ℕ → ℕ → ℕ
left_of f w m = sum_by (λ j. if is_one m j then f j else 0) (range_with_len 0 w)

pub left_none : (f : ℕ → ℕ) (w m : ℕ) → m ≡ 0 → left_of f w m ≡ 0
unfolding left_of
left_none f w m none = sum_none (λ j. if is_one m j then f j else 0) 0 w (λ j _ _. ap (λ b. if b then f j else 0) (digit_from_zero m j none))

pub left_taken : (f : ℕ → ℕ) (w m i r : ℕ) → IsLowest m i → i < w → IsCleared w m i r → left_of f w m ≡ f i + left_of f w r
unfolding left_of
left_taken f w m i r low within cleared =
    let g : ℕ → ℕ → ℕ = λ n j. if is_one n j then f j else 0 in
    let kept : (j : ℕ) → j < w → j ≢ i → g m j ≡ g r j = λ j index other. ap (λ d. if d == 1 then f j else 0) (sym (cleared.kept j index other)) in
    let here : g m i ≡ f i = ap (λ d. if d == 1 then f i else 0) low.one in
    let gone : g r i ≡ 0 = ap (λ d. if d == 1 then f i else 0) cleared.cleared in
    omega (
      arith,
      here,
      gone,
      sum-parts (g m) 0 i w (omega arith) (omega arith),
      sum-parts (g m) i (i + 1) w (omega arith) (omega arith),
      sum-parts (g r) 0 i w (omega arith) (omega arith),
      sum-parts (g r) i (i + 1) w (omega arith) (omega arith),
      sums_same (g m) (g r) 0 (i - 0) (λ j _ below. kept j (omega arith) (omega arith)),
      sums_same (g m) (g r) (i + 1) (w - (i + 1)) (λ j from below. kept j (omega arith) (omega arith)),
      ap (λ n. sum_by (g m) (range_with_len i n)) (let e : i + 1 - i ≡ 1 = omega arith in e),
      sum_one (g m) i,
      ap (λ n. sum_by (g r) (range_with_len i n)) (let e : i + 1 - i ≡ 1 = omega arith in e),
      sum_one (g r) i,
      ap (λ n. sum_by (g m) (range_with_len 0 n)) (let e : w - 0 ≡ w = omega arith in e),
      ap (λ n. sum_by (g r) (range_with_len 0 n)) (let e : w - 0 ≡ w = omega arith in e),
    )

-- what is left then was there before
pub still_left : (w m i r j : ℕ) → IsCleared w m i r → j < w → is_one r j ≡ true → is_one m j ≡ true
still_left w m i r j cleared within one = grind (arith, nat_tests, cleared.cleared, cleared.kept j within)

-- The sum over the digits that are 1 is that over the first n, where it is 0 at the others of these, and where there is no 1 past
-- them.
counted : (b : Bool) (x : ℕ) → (b ≡ false → x ≡ 0) → (if b then x else 0) ≡ x
counted true x none = refl
counted false x none = sym (none refl)

uncounted : (b : Bool) (x : ℕ) → b ≡ false → (if b then x else 0) ≡ 0
uncounted b x none = ap (λ d. if d then x else 0) none

sums_upto : (f total : ℕ → ℕ) (m n : ℕ) → total 0 ≡ 0 → ((j : ℕ) → j < n → total (j + 1) ≡ total j + f j)
    → ((j : ℕ) → j < n → is_one m j ≡ false → f j ≡ 0) → sum_by (λ j. if is_one m j then f j else 0) (range_with_len 0 n) ≡ total n
sums_upto f total m zero start next none = sym start
sums_upto f total m (suc n) start next none =
    let g : ℕ → ℕ = λ j. if is_one m j then f j else 0 in
    let last : g n ≡ f n = counted (is_one m n) (f n) (none n (omega arith)) in
    omega (
      arith,
      last,
      next n (omega arith),
      sums_upto f total m n start (λ j below. next j (omega arith)) (λ j below. none j (omega arith)),
      sum-parts g 0 n (suc n) (omega arith) (omega arith),
      ap (λ c. sum_by g (range_with_len n c)) (let e : suc n - n ≡ 1 = omega arith in e),
      sum_one g n,
      ap (λ c. sum_by g (range_with_len 0 c)) (let e : suc n - 0 ≡ suc n = omega arith in e),
      ap (λ c. sum_by g (range_with_len 0 c)) (let e : n - 0 ≡ n = omega arith in e),
      ap total (let e : n + 1 ≡ suc n = omega arith in e),
    )

left_sums : (f total : ℕ → ℕ) (w m n : ℕ) → n ≤ w → total 0 ≡ 0 → ((j : ℕ) → j < n → total (j + 1) ≡ total j + f j)
    → ((j : ℕ) → j < n → is_one m j ≡ false → f j ≡ 0) → ((j : ℕ) → j < w → is_one m j ≡ true → j < n) → left_of f w m ≡ total n
unfolding left_of
left_sums f total w m n le start next none within =
    let g : ℕ → ℕ = λ j. if is_one m j then f j else 0 in
    let past : sum_by g (range_with_len n (w - n)) ≡ 0 =
    sum_none g n (w - n) (λ j from below.
    uncounted (is_one m j) (f j) (no_true (is_one m j) (λ one. let less = within j (omega arith) one in omega (arith, less)))) in
    omega (
      arith,
      past,
      sums_upto f total m n start next none,
      sum-parts g 0 n w (omega arith) le,
      ap (λ c. sum_by g (range_with_len 0 c)) (let e : w - 0 ≡ w = omega arith in e),
      ap (λ c. sum_by g (range_with_len 0 c)) (let e : n - 0 ≡ n = omega arith in e),
    )

-- ---- where one list has ended

-- a merge with false, from what it makes of true
pub with_false : (g : Bool → Bool) (b x : Bool) → g false ≡ false → g true ≡ b → g x ≡ (b && x)
with_false g true true none is = is
with_false g false true none is = is
with_false g true false none is = none
with_false g false false none is = none

-- a block of one 1 that is merged with zeros has one left exactly where the merge keeps it
pub kept_one : (g : Bool → Bool) (b : Bool) (w r p : ℕ) → 0 < w → r < 2 ^ w → p ≡ 1 → g false ≡ false → g true ≡ b → ((j : ℕ) → j < w → is_one r j ≡ g (is_one p j)) → not (r == 0) ≡ b
kept_one g true w r p pos small one none is digits =
    ⊎_elim
    (λ (gone : r ≡ 0). absurd (false≢true (sym (digit_from_zero r 0 gone) ∙ digits 0 pos ∙ with_false g true (is_one p 0) none is ∙ ap (λ n. is_one n 0) one)))
    (λ (some : r ≢ 0). grind (arith, nat_tests, some))
    (cases_eq r 0)
kept_one g false w r p pos small one none is digits =
    ap (λ n. not (n == 0)) (zero_from_digits w r small (λ j index. digits j index ∙ with_false g false (is_one p j) none is))

-- the ones of a list from block k on, where these are the true values of a function
module _ {X : Type 0} (w : ℕ) (number : X → ℕ) (xs : List X) (pos : 0 < w) (small : (k : ℕ) → get_or (map number xs) k 0 < 2 ^ w) (f : ℕ → Bool) (k : ℕ)
    (same : (i : ℕ) → k * w ≤ i → f i ≡ value_at w (map number xs) i) where
  none_from_end : (a n : ℕ) → k ≤ a → length xs ≤ a → count_by f (range_with_len (a * w) n) ≡ 0
  none_from_end a n le past =
      count_none f (a * w) n (λ i from below.
      let block = le-div a i w pos from in
      let reached : k * w ≤ a * w = mul-le-mul_right w le in
      same i (omega (arith, reached, from)) ∙ value_at-past w (map number xs) i (omega (arith, block, past, length-map xs number)))

  pub ones_of_drop : (n : ℕ) → k ≤ n → length xs ≤ n → ones_in number (drop k xs) ≡ count_by f (range_with_len (k * w) (n * w - k * w))
  ones_of_drop n le enough =
      let p = length xs in
      ⊎_elim
      (λ (past : p < k). ap (ones_in number) (drop_all k xs (omega (arith, past))) ∙ sym (none_from_end k (n * w - k * w) (omega arith) (omega (arith, past))))
      (λ (within : k ≤ p).
      omega (
        arith,
        ones_of_blocks number w k p xs (drop k xs) small within (omega arith) (sym (take_all (p - k) (drop k xs) (omega (arith, length-drop k xs)))),
        sums_same (λ i. cond (f i) 1 0) (λ i. cond (value_at w (map number xs) i) 1 0) (k * w) (p * w - k * w) (λ i from below. ap one_if (same i from)),
        count-parts f (k * w) (p * w) (n * w) (mul-le-mul_right w within) (mul-le-mul_right w enough),
        none_from_end p (n * w - p * w) within (omega arith),
      ))
      (cases_lt p k)

-- ---- the ones of the merge

module _ (merge : Merge) (w : ℕ) (ms ns : List ℕ) where
  pub merged_parts : (a b c : ℕ) → a ≤ b → b ≤ c → merged_ones merge w ms ns a c ≡ merged_ones merge w ms ns a b + merged_ones merge w ms ns b c
  merged_parts a b c le also = count-parts (merged_at merge w ms ns) (a * w) (b * w) (c * w) (mul-le-mul_right w le) (mul-le-mul_right w also)

  pub merged_more : (a b c x y : ℕ) → a ≤ b → b ≤ c → x ≡ merged_ones merge w ms ns a b → y ≡ merged_ones merge w ms ns b c → x + y ≡ merged_ones merge w ms ns a c
  merged_more a b c x y le also first second = omega (arith, merged_parts a b c le also, first, second)

  pub merged_le : (a b c d : ℕ) → a ≤ b → b ≤ c → c ≤ d → merged_ones merge w ms ns b c ≤ merged_ones merge w ms ns a d
  merged_le a b c d first second third =
      omega (arith, merged_parts a b d first (omega arith), merged_parts b c d second third)

  -- where other lists have the same values from one block on
  pub merged_same : (ms' ns' : List ℕ) (a b : ℕ) → ((i : ℕ) → a * w ≤ i → value_at w ms i ≡ value_at w ms' i)
      → ((i : ℕ) → a * w ≤ i → value_at w ns i ≡ value_at w ns' i) → merged_ones merge w ms ns a b ≡ merged_ones merge w ms' ns' a b
  merged_same ms' ns' a b first second =
      sums_same (λ i. cond (merged_at merge w ms ns i) 1 0) (λ i. cond (merged_at merge w ms' ns' i) 1 0) (a * w) (b * w - a * w)
      (λ i from below. ap₂ (λ x y. cond (merge_of_values merge x y) 1 0) (first i from) (second i from))

  -- of none
  pub merged_empty : (a : ℕ) → merged_ones merge w ms ns a a ≡ 0
  merged_empty a = let twice = merged_parts a a a (omega arith) (omega arith) in omega (arith, twice)

  -- of one block
  pub merged_block : (k n : ℕ) → n < 2 ^ w → ((j : ℕ) → j < w → is_one n j ≡ merge_of_values merge (is_one (get_or ms k 0) j) (is_one (get_or ns k 0) j))
      → count_ones n ≡ merged_ones merge w ms ns k (k + 1)
  merged_block k n small digits =
      ones_of_span (merged_at merge w ms ns) w k (k * w) (k * w + w) n small (omega arith) (omega arith) (omega arith) (λ j index.
      digits j index ∙ sym (ap₂ (merge_of_values merge) (value_at-index w ms k j index) (value_at-index w ns k j index)) ∙ grind (arith, nat_tests))
      ∙ ap (λ end. count_by (merged_at merge w ms ns) (range_with_len (k * w) (end - k * w))) (let e : k * w + w ≡ (k + 1) * w = omega arith in e)

  pub merged_none : (k : ℕ) → ((j : ℕ) → j < w → merge_of_values merge (is_one (get_or ms k 0) j) (is_one (get_or ns k 0) j) ≡ false) → merged_ones merge w ms ns k (k + 1) ≡ 0
  merged_none k none = sym (merged_block k 0 (pow_pos w) (λ j index. is_one-zero j ∙ sym (none j index))) ∙ ones_zero

  -- past the end of the second list, and of the first
  pub past_second : (b : Bool) (k i : ℕ) → merge_of_values merge true false ≡ b → 0 < w → length ns ≤ k → k * w ≤ i → merged_at merge w ms ns i ≡ (b && value_at w ms i)
  past_second b k i is pos past from =
      let block = le-div k i w pos from in
      ap (merge_of_values merge (value_at w ms i)) (value_at-past w ns i (omega (arith, block, past)))
      ∙ with_false (λ x. merge_of_values merge x false) b (value_at w ms i) (merge_of_values-none merge) is

  pub past_first : (b : Bool) (k i : ℕ) → merge_of_values merge false true ≡ b → 0 < w → length ms ≤ k → k * w ≤ i → merged_at merge w ms ns i ≡ (b && value_at w ns i)
  past_first b k i is pos past from =
      let block = le-div k i w pos from in
      ap (λ x. merge_of_values merge x (value_at w ns i)) (value_at-past w ms i (omega (arith, block, past)))
      ∙ with_false (merge_of_values merge false) b (value_at w ns i) (merge_of_values-none merge) is

  -- where the merge keeps none of the other
  pub none_past_second : (a b : ℕ) → merge_of_values merge true false ≡ false → 0 < w → length ns ≤ a → merged_ones merge w ms ns a b ≡ 0
  none_past_second a b lost pos past = count_none (merged_at merge w ms ns) (a * w) (b * w - a * w) (λ i from below. past_second false a i lost pos past from)

  pub none_past_first : (a b : ℕ) → merge_of_values merge false true ≡ false → 0 < w → length ms ≤ a → merged_ones merge w ms ns a b ≡ 0
  none_past_first a b lost pos past = count_none (merged_at merge w ms ns) (a * w) (b * w - a * w) (λ i from below. past_first false a i lost pos past from)

  -- past both lists
  pub merged_past : (a b : ℕ) → 0 < w → length ms ≤ a → length ns ≤ a → merged_ones merge w ms ns a b ≡ 0
  merged_past a b pos past also = count_none (merged_at merge w ms ns) (a * w) (b * w - a * w) (λ i from below.
      let block = le-div a i w pos from in
      ap₂ (merge_of_values merge) (value_at-past w ms i (omega (arith, block, past))) (value_at-past w ns i (omega (arith, block, also))) ∙ merge_of_values-none merge)

  -- so it does not matter how far one counts past them
  pub merged_all : (a b : ℕ) → 0 < w → length ms ≤ a → length ns ≤ a → length ms ≤ b → length ns ≤ b → merged_ones merge w ms ns 0 a ≡ merged_ones merge w ms ns 0 b
  merged_all a b pos first second third fourth =
      ⊎_elim
      (λ (less : a < b). omega (arith, merged_parts 0 a b (omega arith) (omega arith), merged_past a b pos first second))
      (λ (more : b ≤ a). omega (arith, merged_parts 0 b a (omega arith) more, merged_past b a pos third fourth))
      (cases_lt a b)

  -- where there are none up to a block, and none past it, there are none in a part
  pub merged_zero : (a n : ℕ) → merged_ones merge w ms ns 0 a ≡ 0 → merged_ones merge w ms ns a (n + a) ≡ 0 → merged_ones merge w ms ns 0 n ≡ 0
  merged_zero a n none more =
      omega (arith, none, more, merged_parts 0 a (n + a) (omega arith) (omega arith), merged_le 0 0 n (n + a) (omega arith) (omega arith) (omega arith))

  -- ---- whether there are any

  some_merged : (a b i : ℕ) → merged_at merge w ms ns i ≡ true → a * w ≤ i → i < b * w → 0 < merged_ones merge w ms ns a b
  some_merged a b i is from below = count_some (merged_at merge w ms ns) (a * w) (b * w - a * w) i is from (omega (arith, from, below))

  pub false_where_none : 0 < w → ((n : ℕ) → merged_ones merge w ms ns 0 n ≡ 0) → MergesToFalse merge w ms ns
  false_where_none pos none = record {
    value = λ i. no_true (merged_at merge w ms ns i) (λ is.
        let enough : 1 * (i + 1) ≤ w * (i + 1) = mul-le-mul_right (i + 1) pos in
        let some = some_merged 0 (i + 1) i is (omega arith) (omega (arith, enough)) in
        omega (arith, some, none (i + 1)));
  }

  pub none_where_false : (a b : ℕ) → MergesToFalse merge w ms ns → merged_ones merge w ms ns a b ≡ 0
  none_where_false a b falses = count_none (merged_at merge w ms ns) (a * w) (b * w - a * w) (λ i _ _. falses.value i)

  -- of the first c blocks of each list
  front_false : (c : ℕ) (front other : List ℕ) → front ≡ take c ms → other ≡ take c ns → MergesToFalse merge w ms ns → MergesToFalse merge w front other
  front_false c front other is also falses = record {
    value = λ i.
        ⊎_elim
        (λ (low : i / w < c).
        ap₂ (λ (xs ys : List ℕ). merge_of_values merge (value_at w xs i) (value_at w ys i)) is also
        ∙ ap₂ (merge_of_values merge) (value_at-take w c ms i low) (value_at-take w c ns i low)
        ∙ falses.value i)
        (λ (high : c ≤ i / w).
        ap₂ (λ (xs ys : List ℕ). merge_of_values merge (value_at w xs i) (value_at w ys i)) is also
        ∙ ap₂ (merge_of_values merge) (value_at-past w (take c ms) i (omega (arith, high, length-take c ms))) (value_at-past w (take c ns) i (omega (arith, high, length-take c ns)))
        ∙ merge_of_values-none merge)
        (cases_lt (i / w) c);
  }

  none_in_front : (c : ℕ) (front other : List ℕ) → 0 < w → front ≡ take c ms → other ≡ take c ns → MergesToFalse merge w front other → merged_ones merge w ms ns 0 c ≡ 0
  none_in_front c front other pos is also falses =
      count_none (merged_at merge w ms ns) (0 * w) (c * w - 0 * w) (λ i _ below.
      let low : i / w < c = div_below i w c pos (omega (arith, below)) in
      ap₂ (merge_of_values merge) (sym (value_at-take w c ms i low)) (sym (value_at-take w c ns i low))
      ∙ ap₂ (λ (xs ys : List ℕ). merge_of_values merge (value_at w xs i) (value_at w ys i)) (sym is) (sym also)
      ∙ falses.value i)

  -- of the blocks at which m has a 1
  left_some : (start m : ℕ) → ((j : ℕ) → j < w → is_one m j ≡ false → merged_ones merge w ms ns (start + j) (start + j + 1) ≡ 0)
      → left_of (λ j. merged_ones merge w ms ns (start + j) (start + j + 1)) w m ≡ merged_ones merge w ms ns start (start + w)
  left_some start m none =
      let ones = merged_ones merge w ms ns in
      left_sums (λ j. ones (start + j) (start + j + 1)) (λ n. ones start (start + n)) w m w (omega arith)
      (ap (ones start) (let e : start + 0 ≡ start = omega arith in e) ∙ merged_empty start)
      (λ j below.
      ap (ones start) (let e : start + (j + 1) ≡ start + j + 1 = omega arith in e)
      ∙ merged_parts start (start + j) (start + j + 1) (omega arith) (omega arith))
      none (λ j within _. within)

  pub left_all : (start m : ℕ) → CoversMerged merge w ms ns start m → left_of (λ j. merged_ones merge w ms ns (start + j) (start + j + 1)) w m ≡ merged_ones merge w ms ns start (start + w)
  left_all start m covers = left_some start m covers.none

  -- of the chunks at which m has a 1
  pub left_chunks : (first count m : ℕ) → count ≤ w → CoversChunks merge w ms ns first count m
      → left_of (λ j. merged_ones merge w ms ns ((first + j) * w) ((first + j + 1) * w)) w m ≡ merged_ones merge w ms ns (first * w) ((first + count) * w)
  left_chunks first count m le covers =
      let ones = merged_ones merge w ms ns in
      left_sums (λ j. ones ((first + j) * w) ((first + j + 1) * w)) (λ n. ones (first * w) ((first + n) * w)) w m count le
      (ap (λ q. ones (first * w) (q * w)) (let e : first + 0 ≡ first = omega arith in e) ∙ merged_empty (first * w))
      (λ j below.
      ap (λ q. ones (first * w) (q * w)) (let e : first + (j + 1) ≡ first + j + 1 = omega arith in e)
      ∙ merged_parts (first * w) ((first + j) * w) ((first + j + 1) * w) (mul-le-mul_right w (omega arith)) (mul-le-mul_right w (omega arith)))
      covers.none covers.within

  -- ---- which blocks of a chunk are read

  none_from : (x y p o : Bool) → (p ≡ false → x ≡ false) → (o ≡ false → y ≡ false) → may_merge merge p o ≡ false → merge_of_values merge x y ≡ false
  none_from x y p o first second none = grind (arith, merge_of_values-none merge)

  -- of a block of which the summaries say that it merges to none
  block_none : (q p o : ℕ) → ((j : ℕ) → j < w → is_one p j ≡ is_used ms (q * w + j)) → ((j : ℕ) → j < w → is_one o j ≡ is_used ns (q * w + j))
      → (j : ℕ) → j < w → may_merge merge (is_one p j) (is_one o j) ≡ false → merged_ones merge w ms ns (q * w + j) (q * w + j + 1) ≡ 0
  block_none q p o first second j index none = merged_none (q * w + j) (λ i within.
      none_from _ _ (is_one p j) (is_one o j)
      (λ zero. digit_from_zero _ i (zero_from_unused _ (sym (first j index) ∙ zero)))
      (λ zero. digit_from_zero _ i (zero_from_unused _ (sym (second j index) ∙ zero)))
      none)

  -- and of a chunk of such blocks
  pub chunk_none : (q p o : ℕ) → ((j : ℕ) → j < w → is_one p j ≡ is_used ms (q * w + j)) → ((j : ℕ) → j < w → is_one o j ≡ is_used ns (q * w + j))
      → ((j : ℕ) → j < w → may_merge merge (is_one p j) (is_one o j) ≡ false) → merged_ones merge w ms ns (q * w) ((q + 1) * w) ≡ 0
  chunk_none q p o first second none =
      let ones = merged_ones merge w ms ns in
      ap (ones (q * w)) (let e : (q + 1) * w ≡ q * w + w = omega arith in e)
      ∙ sym (left_some (q * w) 0 (λ j index _. block_none q p o first second j index (none j index)))
      ∙ left_none (λ j. ones (q * w + j) (q * w + j + 1)) w 0 refl

  pub covers_merged : (q p o u : ℕ) → length ms < 2 ^ 64 → length ns < 2 ^ 64 → ((j : ℕ) → j < w → is_one p j ≡ is_used ms (q * w + j))
      → ((j : ℕ) → j < w → is_one o j ≡ is_used ns (q * w + j))
      → ((j : ℕ) → j < w → is_one u j ≡ may_merge merge (is_one p j) (is_one o j)) → CoversMerged merge w ms ns (q * w) u
  covers_merged q p o u fits also first second digits = record {
    none = λ j index none. block_none q p o first second j index (sym (digits j index) ∙ none);
    fits = λ j index one. ⊎_elim
        (λ below. below)
        (λ past.
        let no : is_one p j ≡ false = first j index ∙ used_past ms (q * w + j) (omega arith) in
        let none : is_one o j ≡ false = second j index ∙ used_past ns (q * w + j) (omega arith) in
        absurd (false≢true (sym (digits j index ∙ ap₂ (may_merge merge) no none ∙ nothing) ∙ one)))
        (cases_lt (q * w + j) (2 ^ 64));
  }
    where
      nothing : may_merge merge false false ≡ false
      nothing = let none = merge_of_values-none merge in ap (λ b. b || (b || b)) none

-- ---- lists

-- the ones of the merge of two lists are its true values
pub merged_trues : (m : Merge) (w n p r s c : ℕ) (ms ns : List ℕ)
    (v u : Bits) → record { values = values_of w ms n; capacity = r } ≡ v
    → record { values = values_of w ns p; capacity = s } ≡ u → IsZeroFrom w ms n → IsZeroFrom w ns p → max n p ≤ c * w
    → merged_ones m w ms ns 0 c ≡ count_by (λ value. value) (merge_of m v.values u.values)
merged_trues m w n p r s c ms ns v u e f tail also enough =
    let f_at = merged_at m w ms ns in
    let merged = merge_of m v.values u.values in
    let len : length merged ≡ max n p = length-merged m v.values u.values ∙ ap₂ max (length_from_view w n r ms v e) (length_from_view w p s ns u f) in
    let same : merged ≡ map f_at (range_with_len 0 (max n p)) =
    ext_get_or false _ _ (len ∙ sym (length-map-range_with_len f_at 0 (max n p))) (λ i within.
    get_or-merged m v.values u.values i
    ∙ ap₂ (merge_of_values m) (value_in_view w n r ms v e tail i) (value_in_view w p s ns u f also i)
    ∙ sym (get_or-map-range_with_len f_at 0 (max n p) i i false (omega (arith, len, within)) (omega arith))) in
    let past : count_by f_at (range_with_len (max n p) (c * w - max n p)) ≡ 0 = count_none f_at (max n p) (c * w - max n p) (λ i from below.
    ap₂ (merge_of_values m) (tail.zero_tail i (omega arith)) (also.zero_tail i (omega arith)) ∙ merge_of_values-none m) in
    omega (
      arith,
      past,
      ap (λ x. count_by f_at (range_with_len x (c * w - x))) (let e : 0 * w ≡ 0 = omega arith in e),
      count-parts f_at 0 (max n p) (c * w) (omega arith) enough,
      ap (λ x. count_by f_at (range_with_len 0 x)) (let e : max n p - 0 ≡ max n p = omega arith in e),
      ap (count_by (λ value. value)) same,
      trues_of_map f_at (range_with_len 0 (max n p)),
    )

pub merged_fits : (m : Merge) (w n p r s k : ℕ) (ms ns : List ℕ)
    (v u : Bits) → 0 < w → record { values = values_of w ms n; capacity = r } ≡ v
    → record { values = values_of w ns p; capacity = s } ≡ u → IsZeroFrom w ms n → IsZeroFrom w ns p → n < 2 ^ 64
    → p < 2 ^ 64 → merged_ones m w ms ns 0 k < 2 ^ 64
merged_fits m w n p r s k ms ns v u pos e f tail also fits small =
    let end = k + n + p in
    let enough : 1 * end ≤ w * end = mul-le-mul_right end pos in
    let all = merged_trues m w n p r s end ms ns v u e f tail also (omega (arith, enough)) in
    omega (arith, all, merged_le m w ms ns 0 0 k end (omega arith) (omega arith) (omega arith), count_by-le-length (λ value. value) (merge_of m v.values u.values), length-merged m v.values u.values, length_from_view w n r ms v e, length_from_view w p s ns u f)

-- ---- the fronts of lists of blocks

-- the blocks' numbers
front_of : {B : Type 0} (f : B → ℕ) (c : ℕ) (bs front : List B) → front ≡ take c bs → map f front ≡ take c (map f bs)
front_of f c bs front is = ap (map f) is ∙ sym (take-map f c bs)

-- fronts merge to zeros where the lists do
pub false_in_fronts : {B : Type 0} (f : B → ℕ) (merge : Merge) (w c : ℕ) (bs os front other : List B) → front ≡ take c bs → other ≡ take c os
    → MergesToFalse merge w (map f bs) (map f os) → MergesToFalse merge w (map f front) (map f other)
false_in_fronts f merge w c bs os front other is also = front_false merge w (map f bs) (map f os) c (map f front) (map f other) (front_of f c bs front is) (front_of f c os other also)

-- where they do, the lists have no ones there
pub none_in_fronts : {B : Type 0} (f : B → ℕ) (merge : Merge) (w c : ℕ) (bs os front other : List B) → 0 < w → front ≡ take c bs → other ≡ take c os
    → MergesToFalse merge w (map f front) (map f other) → merged_ones merge w (map f bs) (map f os) 0 c ≡ 0
none_in_fronts f merge w c bs os front other pos is also = none_in_front merge w (map f bs) (map f os) c (map f front) (map f other) pos (front_of f c bs front is) (front_of f c os other also)
