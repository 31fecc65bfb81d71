-- The ones of whole chunks of a list, and whether there are any, by the part of its summary that is about them.
use Rattle.std.proofs.Common.{◌≡◌, ℕ, ◌+◌, ◌-◌, ◌*◌, ◌/◌, ◌%◌, ◌^◌, ◌<◌, ◌≤◌, ◌↔◌, ◌==◌, false, not, List, map, take, drop, length, get_or, All, sym, ap, ◌∙◌, ⊎_elim, arith}
use Rattle.std.proofs.Common.{div-add-mod', div-lt_iff_lt-mul, div-mul-le_self, le_of_mul-le-mul_right, length-take, mod-lt, mul-le-mul_right}
use Rattle.std.proofs.lemmas.{Bool.cases_lt, Nat.le-div, List.{get_or_past, length-map}}
use Rattle.std.specs.List.{count_by, range_with_len}
use Rattle.bit_blocks.specs.{Bits.blocks_for, BlockMerges.MergesSpanToFalse, Digits.is_one, Storage.{is_used, ones_in, value_at}}
use Rattle.bit_blocks.specs.declared.block.merge.Merge.TheVariants.{Intersection}
use Rattle.bit_blocks.proofs.{BitsLemmas.blocks_for-enough, SpanCountLemmas.{count-le, ones_of_blocks}, StorageLemmas.{value_at-index, value_at-is}, ZeroLemmas.{all_zero, dropped, front_read}}
use Rattle.bit_blocks.proofs.{CompareLemmas.zero_from_digits, Masks.is_one-zero, UseLemmas.unused_from_false, VectorLemmas.{all_zero_map, numbers_below}}
use Rattle.bit_words.{proofs.SummaryZeros.zero_from_chunk, specs.Summary.IsSummary}

-- a list that has so many chunks whole has as many blocks of a summary
pub chunks_within : (w n chunks : ℕ) → 0 < w → chunks * w ≤ n → chunks ≤ blocks_for w n
chunks_within w n chunks pos whole =
    let enough = blocks_for-enough w n pos in
    let all : chunks * w ≤ blocks_for w n * w = omega arith in
    le_of_mul-le-mul_right all pos

module _ {X : Type 0} (w first end : ℕ) (number : X → ℕ) (is_block : X → Type 0) (xs ys : List X) (forward : first ≤ end)
    (run : ys ≡ take ((end - first) * w) (drop (first * w) xs)) where
  -- how many blocks they have
  count_apart : (n : ℕ) → end ≡ first + n → n * w ≡ end * w - first * w
  count_apart n apart = let all : end * w ≡ (first + n) * w = ap (λ m. m * w) apart in omega (arith, all)

  pub ones_of_run : ((k : ℕ) → get_or (map number xs) k 0 < 2 ^ w) → end * w ≤ length xs
      → ones_in number ys ≡ count_by (value_at w (map number xs)) (range_with_len (first * w * w) (end * w * w - first * w * w))
  ones_of_run small within =
      let blocks : (end - first) * w ≡ end * w - first * w = count_apart (end - first) (let e : end ≡ first + (end - first) = omega arith in e) in
      ones_of_blocks number w (first * w) (end * w) xs ys small (mul-le-mul_right w forward) within (run ∙ ap (λ n. take n (drop (first * w) xs)) blocks)

  pub few_ones : ((k : ℕ) → get_or (map number xs) k 0 < 2 ^ w) → end * w ≤ length xs → ones_in number ys ≤ end * w * w
  few_ones small within =
      let ones = ones_of_run small within in
      let few = count-le (value_at w (map number xs)) (first * w * w) (end * w * w - first * w * w) in
      omega (arith, ones, few)

  -- what the part of the summary says of them
  pub run_digit : (ss ts : List X) → 0 < w → IsSummary w number is_block xs ss → ts ≡ take (end - first) (drop first ss) → (k : ℕ) → k < (end - first) * w
      → value_at w (map number ts) k ≡ is_used (map number ys) k
  run_digit ss ts pos summary own k within =
      let block : get_or (map number ts) (k / w) 0 ≡ get_or (map number ss) (first + k / w) 0 =
      ap (λ zs. get_or (map number zs) (k / w) 0) own
      ∙ front_read w number is_block (drop first ss) (end - first) (k / w) ((div-lt_iff_lt-mul pos).1 within)
      ∙ dropped number first (k / w) ss in
      let parts = div-add-mod' k w in
      let place : (first + k / w) * w + k % w ≡ first * w + k = omega (arith, parts) in
      let read : get_or (map number ys) k 0 ≡ get_or (map number xs) (first * w + k) 0 =
      ap (λ zs. get_or (map number zs) k 0) run
      ∙ front_read w number is_block (drop (first * w) xs) ((end - first) * w) k within
      ∙ dropped number (first * w) k xs in
      value_at-is w (map number ts) k
      ∙ ap (λ n. is_one n (k % w)) block
      ∙ sym (value_at-index w (map number ss) (first + k / w) (k % w) (mod-lt k pos))
      ∙ ap (value_at w (map number ss)) place
      ∙ summary.digit (first * w + k)
      ∙ ap (λ n. not (n == 0)) (sym read)

-- bit n is before the chunk that follows its own, which is chunk r
pub past_chunk : (w n q r : ℕ) → 0 < w → q ≡ n / w → r ≡ q / w → n < (r + 1) * w * w
past_chunk w n q r pos block chunk =
    let in_block : n < (q + 1) * w = omega (arith, div-add-mod' n w, mod-lt n pos, ap (λ k. k * w) block) in
    let in_chunk : q + 1 ≤ (r + 1) * w = omega (arith, div-add-mod' q w, mod-lt q pos, ap (λ k. k * w) chunk) in
    omega (arith, in_block, mul-le-mul_right w in_chunk)

-- and not before that
pub chunk_begins : (w n q r : ℕ) → q ≡ n / w → r ≡ q / w → r * w * w ≤ n
chunk_begins w n q r block chunk =
    let in_block : q * w ≤ n = omega (arith, div-mul-le_self n w, ap (λ k. k * w) block) in
    let in_chunk : r * w ≤ q = omega (arith, div-mul-le_self q w, ap (λ k. k * w) chunk) in
    omega (arith, in_block, mul-le-mul_right w in_chunk)

module _ {X : Type 0} (w first end : ℕ) (number : X → ℕ) (is_block : X → Type 0) (below : (x : X) → is_block x → number x < 2 ^ w) (pos : 0 < w) (xs ss ts : List X)
    (each : All is_block xs) (summary : IsSummary w number is_block xs ss) (own : ts ≡ take (end - first) (drop first ss)) where
  read_own : (k : ℕ) → k < end - first → get_or (map number ts) k 0 ≡ get_or (map number ss) (first + k) 0
  read_own k within =
      ap (λ zs. get_or (map number zs) k 0) own ∙ front_read w number is_block (drop first ss) (end - first) k within ∙ dropped number first k ss

  -- the part of the summary is 0 where the chunks are
  pub zero_chunks : All (λ x. number x ≡ 0) ts ↔ ((i : ℕ) → first * w * w ≤ i → i < end * w * w → value_at w (map number xs) i ≡ false)
  zero_chunks = (
    λ none i reached before.
        let chunk : first ≤ i / w / w = le-div first (i / w) w pos (le-div (first * w) i w pos reached) in
        let within : i / w / w < end = (div-lt_iff_lt-mul pos).1 ((div-lt_iff_lt-mul pos).1 before) in
        let place : first + (i / w / w - first) ≡ i / w / w = omega (arith, chunk) in
        let zero : get_or (map number ss) (i / w / w) 0 ≡ 0 =
        rw place at (sym (read_own (i / w / w - first) (omega (arith, chunk, within)))) ∙ all_zero_map number ts none (i / w / w - first) in
        value_at-is w (map number xs) i
        ∙ ap (λ m. is_one m (i % w)) (zero_from_chunk w number is_block xs ss summary (i / w) zero)
        ∙ is_one-zero (i % w),
    λ falses. all_zero w number is_block ts (λ k.
        ⊎_elim
        (λ within.
        read_own k within
        ∙ zero_from_digits w (get_or (map number ss) (first + k) 0) (numbers_below w number is_block ss below summary.packed.each (first + k)) (λ j index.
        let block = (first + k) * w + j in
        let small = numbers_below w number is_block xs below each block in
        sym (value_at-index w (map number ss) (first + k) j index)
        ∙ summary.digit block
        ∙ unused_from_false w (map number xs) block small (λ p bit.
        let row = mul-le-mul_right w (let l : j + 1 ≤ w = omega arith in l) in
        let all = mul-le-mul_right w (mul-le-mul_right w (let l : first + k + 1 ≤ end = omega arith in l)) in
        falses (block * w + p) (omega arith) (omega (arith, row, all)))))
        (λ past. get_or_past (map number ts) k 0 (omega (arith, past, ap length own, length-take (end - first) (drop first ss), length-map ts number)))
        (cases_lt k (end - first))),
  )

-- a span that has no 1 before the chunks, in them and past them
pub zero_parts : (w a from to b : ℕ) (ms : List ℕ) → MergesSpanToFalse Intersection w a from ms → ((i : ℕ) → from ≤ i → i < to → value_at w ms i ≡ false)
    → MergesSpanToFalse Intersection w to b ms → MergesSpanToFalse Intersection w a b ms
zero_parts w a from to b ms first middle last = record {
  value = λ i reached below.
      ⊎_elim
      (first.value i reached)
      (λ past. ⊎_elim (λ inside. grind (arith, middle i past inside)) (λ beyond. last.value i beyond below) (cases_lt i to))
      (cases_lt i from);
}

-- a span within one that has none
pub zero_within : (w a b c d : ℕ) (ms : List ℕ) → a ≤ c → d ≤ b → MergesSpanToFalse Intersection w a b ms → MergesSpanToFalse Intersection w c d ms
zero_within w a b c d ms begun ended zero = record { value = λ i reached below. zero.value i (omega (arith, begun, reached)) (omega (arith, below, ended)) }

pub none_within : (w a b c d : ℕ) (ms : List ℕ) → a ≤ c → d ≤ b → MergesSpanToFalse Intersection w a b ms → (i : ℕ) → c ≤ i → i < d → value_at w ms i ≡ false
none_within w a b c d ms begun ended zero i reached below = grind (arith, zero.value i (omega (arith, begun, reached)) (omega (arith, below, ended)))
