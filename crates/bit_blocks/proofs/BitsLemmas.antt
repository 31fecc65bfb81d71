-- Lemmas on a list of truth values and the blocks that store it.
use Rattle.std.proofs.Common.{⊎_elim, ◌≡◌, ℕ, zero, suc, ◌+◌, ◌-◌, ◌*◌, ◌/◌, ◌^◌, ◌<◌, ◌≤◌, ◌==◌, Bool, true, false, List}
use Rattle.std.proofs.Common.{[], ◌∷◌, length, get_or, take, drop, refl, sym, ap, ◌∙◌, arith, div-add-mod', pow_pos}
use Rattle.std.proofs.Common.{length-take, get_or-take, get_or-drop, pow-suc, div-lt_iff_lt-mul, lt_of_mul-lt-mul_right}
use Rattle.std.proofs.{Common.{lt_of_lt_of_le, mul-le-mul_right, slice_get, Some}, lemmas.Option.get_or_from_slice_get}
use Rattle.std.proofs.lemmas.Nat.{Bits.{bit_at-suc, bit_at-zero, bit_at_lowest}, le-div}
use Rattle.std.proofs.lemmas.List.{FromFn.{length-map-range_with_len, get_or-map-range_with_len}, get_or_past, drop_all}
use Rattle.std.{proofs.lemmas.{Option.slice_get-get_or, Bool.cases_lt, Grind.div_ceil_times}, specs.Int.bit_at}
use Rattle.bit_blocks.specs.Bits.{blocks_for, digit_of, number_of, blocks_of}

-- ---- the number of a list of digits

pub number_of-half : (b : Bool) (bs : List Bool) → number_of (b ∷ bs) / 2 ≡ number_of bs
unfolding number_of
number_of-half b bs = grind arith

pub bit_at-number_of : (bs : List Bool) (j : ℕ) → bit_at (number_of bs) j ≡ digit_of (get_or bs j false)
unfolding number_of
bit_at-number_of [] j = bit_at-zero j
bit_at-number_of (b ∷ bs) zero = grind (arith, bit_at_lowest (number_of bs * 2 + digit_of b))
bit_at-number_of (b ∷ bs) (suc j) = bit_at-suc (number_of (b ∷ bs)) j ∙ ap (λ n. bit_at n j) (number_of-half b bs) ∙ bit_at-number_of bs j

pub number_of-lt : (bs : List Bool) (w : ℕ) → length bs ≤ w → number_of bs < 2 ^ w
unfolding number_of
number_of-lt [] w h = pow_pos w
number_of-lt (b ∷ bs) zero h = absurd (omega arith)
number_of-lt (b ∷ bs) (suc w) h = grind (arith, pow-suc, number_of-lt bs w)

-- the digit of a truth value says which it is
pub read_back : (b : Bool) → (digit_of b == 1) ≡ b
read_back b = grind arith

-- ---- how many blocks

pub blocks_for-enough : (w n : ℕ) → 0 < w → n ≤ blocks_for w n * w
blocks_for-enough w n h = (div_ceil_times n w h).0

pub blocks_for-least : (w n c : ℕ) → 0 < w → n ≤ c * w → blocks_for w n ≤ c
blocks_for-least w n c h e = let l : blocks_for w n < suc c = lt_of_mul-lt-mul_right w (omega (arith, (div_ceil_times n w h).1)) in omega arith

-- more values take no fewer blocks
pub blocks_for-le : (w m n : ℕ) → 0 < w → m ≤ n → blocks_for w m ≤ blocks_for w n
blocks_for-le w m n pos h = blocks_for-least w m (blocks_for w n) pos (omega (arith, blocks_for-enough w n pos))

-- the blocks before one of them are whole
pub whole_before : (w n k : ℕ) → 0 < w → k < blocks_for w n → k * w < n
whole_before w n k pos h = grind (arith, blocks_for-least w n k pos)

-- where block k begins, of as many as hold n values; b is what `bits()` returned
pub block_begins : (w n k b count : ℕ) → 0 < w → b ≡ w → count ≡ blocks_for w n → k < count → k * b < n
block_begins w n k b count pos wide blocks within = rw wide (whole_before w n k pos (omega arith))

-- those of the values past the first of them
pub blocks_for-past : (w q n : ℕ) → 0 < w → q * w < n + w → blocks_for w n ≡ q + blocks_for w (n - q * w)
blocks_for-past w q n pos before =
    let left : ℕ = n - q * w in
    let none : left ≤ 0 * w → blocks_for w left * w ≤ 0 * w = λ h. mul-le-mul_right w (blocks_for-least w left 0 pos h) in
    let two = div_ceil_times left w pos in
    let most : q + blocks_for w left < suc (blocks_for w n) = lt_of_mul-lt-mul_right w (grind (arith, two, none, div_ceil_times n w pos)) in
    let least = blocks_for-least w n (q + blocks_for w left) pos (grind (arith, two)) in
    omega arith

-- a place below n is in one of the blocks, and a place past them is not below n
pub blocks_for-above : (w n i : ℕ) → 0 < w → i < n → i / w < blocks_for w n
blocks_for-above w n i h e = (div-lt_iff_lt-mul h).1 (lt_of_lt_of_le e (blocks_for-enough w n h))

pub blocks_for-below : (w n i : ℕ) → 0 < w → blocks_for w n ≤ i / w → n ≤ i
blocks_for-below w n i h e = grind (arith, blocks_for-above w n i h)

-- an index from that of a block on is in it or past it, and one in a block before is below
pub block_past : (w c i : ℕ) → 0 < w → c * w ≤ i → c ≤ i / w
block_past w c i pos past = le-div c i w pos past

pub index_below : (w k j i : ℕ) → j < w → k < i / w → k * w + j < i
index_below w k j i index below = let more = mul-le-mul_right w (let le : k + 1 ≤ i / w = omega arith in le) in omega (arith, div-add-mod' i w)

-- ---- the blocks of a list

pub length-blocks_of : (w : ℕ) (values : List Bool) → length (blocks_of w values) ≡ blocks_for w (length values)
unfolding blocks_of
length-blocks_of w values = length-map-range_with_len _ 0 (blocks_for w (length values))

-- past the blocks there is no value
block_of-past : (w k : ℕ) (values : List Bool) → blocks_for w (length values) ≤ k → number_of (take w (drop (k * w) values)) ≡ 0
unfolding number_of
block_of-past zero k values e = refl
block_of-past (suc w) k values e =
    let past : length values ≤ k * suc w = omega (arith, blocks_for-enough (suc w) (length values) (omega arith), mul-le-mul_right (suc w) e) in
    ap (λ bs. number_of (take (suc w) bs)) (drop_all (k * suc w) values past)

pub get_or-blocks_of : (w k : ℕ) (values : List Bool) → get_or (blocks_of w values) k 0 ≡ number_of (take w (drop (k * w) values))
unfolding blocks_of
get_or-blocks_of w k values =
    ⊎_elim
    (λ within. get_or-map-range_with_len _ 0 (blocks_for w (length values)) k k 0 within (omega arith))
    (λ past. get_or_past _ k 0 (rw length-map-range_with_len past) ∙ sym (block_of-past w k values past))
    (cases_lt k (blocks_for w (length values)))

-- ---- what `laws` says of them

pub blocks_of-digit : (w k j : ℕ) (values : List Bool) → j < w → bit_at (get_or (blocks_of w values) k 0) j ≡ digit_of (get_or values (k * w + j) false)
blocks_of-digit w k j values h =
    ap (λ m. bit_at m j) (get_or-blocks_of w k values)
    ∙ bit_at-number_of (take w (drop (k * w) values)) j
    ∙ ap digit_of (get_or-take w (drop (k * w) values) j false h ∙ get_or-drop (k * w) values j false)

pub blocks_of-lt : (w k : ℕ) (values : List Bool) → get_or (blocks_of w values) k 0 < 2 ^ w
blocks_of-lt w k values = rw (get_or-blocks_of w k values) (number_of-lt _ w (omega (arith, length-take w (drop (k * w) values))))

-- a value of 1 at an index is a true value there
pub true_from_slice_get : (bs : List Bool) (i : ℕ) → slice_get bs i ≡ Some true → digit_of (get_or bs i false) ≡ 1
true_from_slice_get bs i h = rw (get_or_from_slice_get bs i true false h) refl

pub slice_get_from_true : (bs : List Bool) (i : ℕ) → digit_of (get_or bs i false) ≡ 1 → slice_get bs i ≡ Some true
slice_get_from_true bs i h = grind (arith, get_or_past, slice_get-get_or)
