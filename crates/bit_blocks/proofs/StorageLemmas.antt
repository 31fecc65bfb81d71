-- How the blocks of a bit vector hold its list, by index.
use Rattle.std.proofs.Common.{◌≡◌, ◌≢◌, ℕ, zero, suc, ◌+◌, ◌-◌, ◌*◌, ◌/◌, ◌%◌, ◌^◌, ◌<◌, ◌≤◌, Bool, false, ◌==◌, List, ◌++◌}
use Rattle.std.proofs.Common.{length, get_or, take, set, replicate, refl, sym, ap, ◌∙◌, arith, length-take, length-append}
use Rattle.std.proofs.{Common.{length-set, get_or-take, get_or-set_same, get_or-set_other}, lemmas.Grind.common_steps}
use Rattle.std.proofs.lemmas.Nat.{Bits.{bit_at-zero, same_from_bits_below, bit_at-lt}, div-mul-add, mod-mul-add}
use Rattle.std.proofs.lemmas.List.{FromFn.{length-map-range_with_len, get_or-map-range_with_len}, get_or_past}
use Rattle.std.{proofs.lemmas.List.{ext_get_or, get_or-replicate, length-replicate}, specs.Int.bit_at}
use Rattle.bit_blocks.{specs.{Bits.{blocks_for, digit_of, blocks_of}, Digits.is_one, Storage.{value_at, values_of, IsZeroFrom}}, proofs.BitsLemmas.{blocks_of-digit, blocks_of-lt, length-blocks_of}}

-- ---- one value

pub value_at-is : (w : ℕ) (ms : List ℕ) (i : ℕ) → value_at w ms i ≡ is_one (get_or ms (i / w) 0) (i % w)
unfolding value_at
value_at-is w ms i = refl

-- past the blocks every value is false
pub value_at-past : (w : ℕ) (ms : List ℕ) (i : ℕ) → length ms ≤ i / w → value_at w ms i ≡ false
unfolding value_at
value_at-past w ms i h = ap (λ m. bit_at m (i % w) == 1) (get_or_past ms (i / w) 0 h) ∙ ap (λ d. d == 1) (bit_at-zero (i % w))

pub value_at-set_same : (w : ℕ) (ms : List ℕ) (k m i : ℕ) → k < length ms → i / w ≡ k → value_at w (set ms k m) i ≡ is_one m (i % w)
unfolding value_at
value_at-set_same w ms k m i h e =
    ap (λ q. bit_at (get_or (set ms k m) q 0) (i % w) == 1) e ∙ ap (λ x. bit_at x (i % w) == 1) (get_or-set_same ms k m 0 h)

pub value_at-set_other : (w : ℕ) (ms : List ℕ) (k m i : ℕ) → i / w ≢ k → value_at w (set ms k m) i ≡ value_at w ms i
unfolding value_at
value_at-set_other w ms k m i e = ap (λ x. bit_at x (i % w) == 1) (get_or-set_other ms k (i / w) m 0 e)

-- ---- the list of the first n values

pub length-values_of : (w : ℕ) (ms : List ℕ) (n : ℕ) → length (values_of w ms n) ≡ n
unfolding values_of
length-values_of w ms n = length-map-range_with_len (value_at w ms) 0 n

pub get_or-values_of : (w : ℕ) (ms : List ℕ) (n i : ℕ) (d : Bool) → i < n → get_or (values_of w ms n) i d ≡ value_at w ms i
unfolding values_of
get_or-values_of w ms n i d h = get_or-map-range_with_len (value_at w ms) 0 n i i d h (omega arith)

-- with zeros past the length the list has the same values at every index
pub get_or-values_of_zero_tail : (w : ℕ) (ms : List ℕ) (n i : ℕ) → IsZeroFrom w ms n → get_or (values_of w ms n) i false ≡ value_at w ms i
get_or-values_of_zero_tail w ms n i c = grind (arith, get_or-values_of w ms n i false, get_or_past (values_of w ms n) i false, length-values_of w ms n, c.zero_tail i)

-- length and every entry fix a list
pub values_of-same : (w : ℕ) (ms : List ℕ) (n : ℕ) (bs : List Bool) → length bs ≡ n → ((i : ℕ) → i < n → value_at w ms i ≡ get_or bs i false) → values_of w ms n ≡ bs
values_of-same w ms n bs e h =
    ext_get_or false _ bs (length-values_of w ms n ∙ sym e) (λ i within.
    let below : i < n = rw (← length-values_of w ms n) within in
    get_or-values_of w ms n i false below ∙ h i below)

-- ---- the blocks are those of the list

pub digit_of-is_one : (d : ℕ) → d < 2 → digit_of (d == 1) ≡ d
digit_of-is_one zero h = refl
digit_of-is_one (suc zero) h = refl
digit_of-is_one (suc (suc d)) h = absurd (omega arith)

-- blocks with the same truth value at an index have the same digit there
pub same_digit : (m n j : ℕ) → is_one m j ≡ is_one n j → bit_at m j ≡ bit_at n j
same_digit m n j same = sym (digit_of-is_one _ (bit_at-lt m j)) ∙ ap digit_of same ∙ digit_of-is_one _ (bit_at-lt n j)

pub value_at-index : (w : ℕ) (ms : List ℕ) (k j : ℕ) → j < w → value_at w ms (k * w + j) ≡ is_one (get_or ms k 0) j
value_at-index w ms k j h = value_at-is w ms (k * w + j) ∙ rw (div-mul-add k w j h, mod-mul-add k w j h) refl

pub blocks-values_of : (w : ℕ) (ms : List ℕ) (n : ℕ) → 0 < w → length ms ≡ blocks_for w n → ((k : ℕ) → get_or ms k 0 < 2 ^ w) → IsZeroFrom w ms n → ms ≡ blocks_of w (values_of w ms n)
blocks-values_of w ms n h count each c =
    ext_get_or 0 ms _ (count ∙ sym (length-blocks_of w (values_of w ms n) ∙ ap (blocks_for w) (length-values_of w ms n))) (λ k within.
    same_from_bits_below w _ _ (each k) (blocks_of-lt w k (values_of w ms n)) (λ j below. sym (
    blocks_of-digit w k j (values_of w ms n) below
    ∙ ap digit_of (get_or-values_of_zero_tail w ms n (k * w + j) c ∙ value_at-index w ms k j below)
    ∙ digit_of-is_one _ (bit_at-lt (get_or ms k 0) j))))

-- ---- changes of the list, by index

pub values_of-take : (w : ℕ) (ms ms' : List ℕ) (n m : ℕ) → n ≤ m → ((i : ℕ) → i < n → value_at w ms' i ≡ value_at w ms i) → values_of w ms' n ≡ take n (values_of w ms m)
values_of-take w ms ms' n m le h =
    values_of-same w ms' n _ (omega (arith, length-take n (values_of w ms m), length-values_of w ms m)) (λ i below.
    h i below ∙ sym (get_or-take n (values_of w ms m) i false below ∙ get_or-values_of w ms m i false (omega arith)))

pub values_of-set : (w : ℕ) (ms ms' : List ℕ) (n i : ℕ) (b : Bool) → i < n → value_at w ms' i ≡ b
    → ((k : ℕ) → k ≢ i → value_at w ms' k ≡ value_at w ms k) → values_of w ms' n ≡ set (values_of w ms n) i b
values_of-set w ms ms' n i b le same others =
    values_of-same w ms' n _ (length-set (values_of w ms n) i b ∙ length-values_of w ms n) (λ k below.
    grind (arith, common_steps, get_or-values_of w ms n k false below, others k, length-values_of w ms n))

pub values_of-replicate : (w : ℕ) (ms : List ℕ) (n : ℕ) (b : Bool) → ((i : ℕ) → i < n → value_at w ms i ≡ b) → values_of w ms n ≡ replicate n b
values_of-replicate w ms n b h =
    values_of-same w ms n _ (length-replicate n b) (λ i below. h i below ∙ sym (get_or-replicate n i b false below))

pub values_of-append : (w : ℕ) (ms ms' : List ℕ) (n m : ℕ) (b : Bool)
    → ((i : ℕ) → i < n → value_at w ms' i ≡ value_at w ms i) → ((i : ℕ) → n ≤ i → i < n + m → value_at w ms' i ≡ b)
    → values_of w ms' (n + m) ≡ values_of w ms n ++ replicate m b
values_of-append w ms ms' n m b kept added =
    values_of-same w ms' (n + m) _ (omega (arith, length-append (values_of w ms n) (replicate m b), length-values_of w ms n, length-replicate m b)) (λ i below.
    grind (arith, common_steps, get_or-values_of w ms n i false, get_or-replicate m (i - n) b false, length-values_of w ms n))
