-- How far a list is true, and the blocks that this takes.
use Rattle.std.proofs.Common.{◌≡◌, ◌≢◌, ℕ, zero, suc, ◌+◌, ◌-◌, ◌*◌, ◌/◌, ◌^◌, ◌<◌, ◌≤◌, max, Bool, false, List, [], ◌∷◌, length, get_or, take, refl, ap, ◌∙◌, arith, length-take}
use Rattle.std.proofs.{Common.{le_of_mul-le-mul_right, mul-le-mul_right}, lemmas.{Bool.Decides.nat_tests, Nat.le-div}}
use Rattle.bit_blocks.specs.{Bits.{Bits, blocks_for, capacity_of, true_end, whole_blocks}, Storage.{value_at, values_of, IsZeroFrom}}
use Rattle.bit_words.specs.Summary.{shared_capacity, short_count, stored_for}
use Rattle.bit_blocks.proofs.{BitsLemmas.{blocks_for-enough, blocks_for-least, whole_before}, CompareLemmas.zero_from_digits, StorageLemmas.{value_at-is, value_at-past, value_at-index}}
use Rattle.bit_blocks.proofs.{PackedLemmas.value_at-take, VectorLemmas.length_from_view, Masks.is_one-zero}

-- ---- how far a list is true

pub true_end-past : (xs : List Bool) (i : ℕ) → true_end xs ≤ i → get_or xs i false ≡ false
true_end-past [] i h = refl
true_end-past (b ∷ bs) zero h = grind (arith, nat_tests)
true_end-past (b ∷ bs) (suc i) h = grind (arith, nat_tests, true_end-past bs i)

pub true_end-least : (xs : List Bool) (c : ℕ) → ((i : ℕ) → c ≤ i → get_or xs i false ≡ false) → true_end xs ≤ c
true_end-least [] c falses = omega arith
true_end-least (b ∷ bs) c falses = grind (arith, nat_tests, falses 0, true_end-least bs (c - 1) (λ i past. falses (suc i) (omega arith)))

-- ---- the blocks up to there

pub blocks_for-whole : (w c : ℕ) → 0 < w → blocks_for w (c * w) ≡ c
blocks_for-whole w c pos = omega (arith, blocks_for-least w (c * w) c pos (omega arith), le_of_mul-le-mul_right (blocks_for-enough w (c * w) pos) pos)

-- the last block that is not 0 holds the last true value
pub used_blocks-true_end : (w : ℕ) (ms : List ℕ) (count : ℕ) (xs : List Bool) → 0 < w → ((k : ℕ) → get_or ms k 0 < 2 ^ w) → ((i : ℕ) → get_or xs i false ≡ value_at w ms i)
    → ((k : ℕ) → count ≤ k → get_or ms k 0 ≡ 0) → (0 < count → get_or ms (count - 1) 0 ≢ 0) → blocks_for w (true_end xs) ≡ count
used_blocks-true_end w ms count xs pos small same zeros last =
    let low = blocks_for-least w (true_end xs) count pos (true_end-least xs (count * w) (λ i past. grind (arith, same i, value_at-is, is_one-zero, zeros (i / w), le-div count i w pos))) in
    let none : blocks_for w (true_end xs) < count → get_or ms (count - 1) 0 ≡ 0 = λ less. zero_from_digits w _ (small (count - 1)) (λ j index.
    grind (arith, value_at-index w ms (count - 1) j index, same ((count - 1) * w + j), true_end-past xs ((count - 1) * w + j), blocks_for-enough w (true_end xs) pos, mul-le-mul_right)) in
    grind (arith, none, last)

pub whole_blocks-fits : (w c : ℕ) (xs : List Bool) → blocks_for w (true_end xs) ≡ c → c * w < 2 ^ 64 → whole_blocks w xs ≡ c * w
whole_blocks-fits w c xs e h = grind (arith, nat_tests, e)

pub whole_blocks-past : (w c : ℕ) (xs : List Bool) → blocks_for w (true_end xs) ≡ c → 2 ^ 64 ≤ c * w → whole_blocks w xs ≡ length xs
whole_blocks-past w c xs e h = grind (arith, nat_tests, e)

-- ---- what stays when the blocks past them go

pub value_at-cut : (w c : ℕ) (ms ns : List ℕ) → ns ≡ take c ms → ((k : ℕ) → c ≤ k → get_or ms k 0 ≡ 0) → (i : ℕ) → value_at w ns i ≡ value_at w ms i
value_at-cut w c ms ns e zeros i = grind (arith, e, value_at-take w c ms i, value_at-past, length-take, value_at-is, zeros (i / w), is_one-zero)

pub zero_tail_cut : (w c : ℕ) (ms ns : List ℕ) (len : ℕ) → 0 < w → len ≡ c * w → ns ≡ take c ms → IsZeroFrom w ns len
zero_tail_cut w c ms ns len pos e is = record { zero_tail = λ i past. value_at-past w ns i (grind (arith, le-div c i w pos, is, length-take)) }

-- ---- the capacity that blocks and their summary share

pub stored_short : (w count : ℕ) → count ≤ short_count w → stored_for w count ≡ 0
stored_short w count few = grind (arith, nat_tests)

pub stored_long : (w count : ℕ) → short_count w < count → stored_for w count ≡ blocks_for w count
stored_long w count many = grind (arith, nat_tests)

pub shared_for_summary : (w count summary : ℕ) → 0 < w → stored_for w count ≤ summary → count ≤ max (short_count w) (summary * w)
shared_for_summary w count summary pos h = grind (arith, nat_tests, blocks_for-enough w count pos, mul-le-mul_right)

pub shared_past_summary : (w count summary : ℕ) → 0 < w → summary < stored_for w count → max (short_count w) (summary * w) < count
shared_past_summary w count summary pos h = grind (arith, nat_tests, whole_before w count summary pos)

pub shared_enough : (w blocks summary count : ℕ) → 0 < w → count ≤ blocks → stored_for w count ≤ summary → count ≤ shared_capacity w blocks summary
shared_enough w blocks summary count pos first second = let more = shared_for_summary w count summary pos second in omega arith

-- and the summary has capacity for that many
pub stored_from_shared : (w blocks summary count : ℕ) → 0 < w → count ≤ shared_capacity w blocks summary → stored_for w count ≤ summary
stored_from_shared w blocks summary count pos h = grind (arith, shared_past_summary w count summary pos)

pub shared_short_blocks : (w blocks summary count : ℕ) → blocks < count → shared_capacity w blocks summary < count
shared_short_blocks w blocks summary count short = omega arith

pub shared_short_summary : (w blocks summary count : ℕ) → 0 < w → summary < stored_for w count → shared_capacity w blocks summary < count
shared_short_summary w blocks summary count pos short = let less = shared_past_summary w count summary pos short in omega arith

pub ruleset shared_tests = (shared_enough, shared_short_blocks, shared_short_summary)

pub shared_le : (w blocks summary more_blocks more_summary : ℕ) → blocks ≤ more_blocks → summary ≤ more_summary → shared_capacity w blocks summary ≤ shared_capacity w more_blocks more_summary
shared_le w blocks summary more_blocks more_summary first second = let more = mul-le-mul_right w second in omega arith

-- the capacity is kept where it is enough, and else becomes what is asked for
pub capacity_kept : (a n : ℕ) → n ≤ a → a ≡ max a n
capacity_kept a n enough = omega arith

pub capacity_raised : (a n : ℕ) → a < n → n ≡ max a n
capacity_raised a n short = omega arith

-- what has less capacity of the two says
pub shared_by_blocks : (w blocks summary more : ℕ) → 0 < w → stored_for w blocks ≤ summary → summary ≤ more → shared_capacity w blocks more ≡ shared_capacity w blocks summary
shared_by_blocks w blocks summary more pos enough le = omega (arith, shared_for_summary w blocks summary pos enough, mul-le-mul_right w le)

pub shared_by_summary : (w blocks summary more : ℕ) → 0 < w → summary < stored_for w blocks → blocks ≤ more → shared_capacity w more summary ≡ shared_capacity w blocks summary
shared_by_summary w blocks summary more pos short le = let less = shared_past_summary w blocks summary pos short in omega arith

pub capacity_le : (w a b : ℕ) → a ≤ b → capacity_of w a ≤ capacity_of w b
capacity_le w a b h = let more = mul-le-mul_right w h in omega arith

-- the capacity of just so many blocks and what is stored of their summary
pub shared_whole : (w count blocks summary : ℕ) → 0 < w → blocks ≡ count → summary ≡ stored_for w count → shared_capacity w blocks summary ≡ count
shared_whole w count blocks summary pos first second = omega (arith, shared_for_summary w count summary pos (omega arith))

-- the capacity of a copy, which is that of the blocks and of what is stored of their summary
pub capacity_of_copy : (w n r count blocks summary : ℕ) (ms : List ℕ)
    (v : Bits) → 0 < w → record { values = values_of w ms n; capacity = r } ≡ v → count ≡ blocks_for w n → blocks ≡ count → summary ≡ stored_for w count → capacity_of w
    (shared_capacity w blocks summary) ≡ capacity_of w (blocks_for w (length v.values))
capacity_of_copy w n r count blocks summary ms v pos e is first second =
    rw (length_from_view w n r ms v e) (ap (capacity_of w) (shared_whole w count blocks summary pos first second ∙ is))
