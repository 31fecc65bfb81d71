-- The values of bytes: a byte turned round, one moved into its place in a block, and the list of all.
use Rattle.std.proofs.Common.{Bool, ◌≡◌, ℕ, zero, suc, ◌+◌, ◌-◌, ◌*◌, ◌/◌, ◌%◌, ◌^◌, ◌<◌, ◌≤◌, false, ◌&&◌, ◌||◌, ◌==◌}
use Rattle.std.proofs.Common.{nat_lt, List, [], ◌∷◌, ◌++◌, length, get_or, refl, sym, ap, ap₂, ◌∙◌, arith, mod-lt}
use Rattle.std.proofs.Common.{div-add-mod', div-mul-le_self, mul-le-mul_right, w8, min, slice_range, get_or-take}
use Rattle.std.{proofs.Common.{get_or-drop, length-take, length-append, replicate, ⊎_elim}, specs.Int.bit_at}
use Rattle.std.proofs.lemmas.{Nat.Bits.{bit_at-suc, bit_at_lowest, bit_at_above}, Bool.{cases_lt, Decides.nat_tests}}
use Rattle.std.proofs.lemmas.List.{ext_get_or, get_or_past, get_or_append_left, get_or-append_right, get_or-replicate}
use Rattle.std.proofs.lemmas.List.{length-replicate, FromFn.get_or-map-range_with_len}
use Rattle.std.specs.{Int.{reverse_bits, reverse_bits_onto}, Prelude.{IfOk, Result, Ok, Err}}
use Rattle.bit_blocks.specs.Bits.{Bits, blocks_for, values_of_byte, values_of_bytes}
use Rattle.bit_blocks.specs.Digits.{IsWidth, IsEither, IsShiftedLeft, IsShiftedRight, is_one}
use Rattle.bit_blocks.specs.{Bytes.{byte_value, placed_value}, Storage.{value_at, values_of, IsZeroFrom}}
use Rattle.bit_blocks.proofs.BitsLemmas.{blocks_for-enough, blocks_for-least}
use Rattle.bit_blocks.proofs.{BitsLemmas.blocks_for-below, StorageLemmas.{value_at-index, value_at-is, value_at-past}}
use Rattle.bit_blocks.proofs.{Masks.{is_one-either, is_one-zero}, CompareLemmas.value_in_view, VectorLemmas.length_from_view}

-- ---- a byte turned round

-- digits are taken from the low end of n and put below those of a
bit_at_pushed : (a d i : ℕ) → d < 2 → bit_at (a * 2 + d) (suc i) ≡ bit_at a i
bit_at_pushed a d i h = grind (arith, bit_at-suc)

turned_more : (k n a : ℕ) (f : ℕ → ℕ) → ((j : ℕ) → j < k → f j ≡ bit_at (n / 2) (k - 1 - j)) → f (k + 0) ≡ bit_at (a * 2 + n % 2) 0 → (i : ℕ) → i < suc k → f i ≡ bit_at n (suc k - 1 - i)
turned_more k n a f low high i h = grind (arith, bit_at-suc n (k - 1 - i), bit_at_lowest n, bit_at_lowest (a * 2 + n % 2), low i)

turned : (k n a : ℕ) → ((i : ℕ) → i < k → bit_at (reverse_bits_onto k n a) i ≡ bit_at n (k - 1 - i)) × ((i : ℕ) → bit_at (reverse_bits_onto k n a) (k + i) ≡ bit_at a i)
unfolding reverse_bits_onto
turned zero n a = (λ i h. absurd (omega arith), λ i. ap (bit_at a) (omega arith))
turned (suc k) n a =
    let rest = reverse_bits_onto k (n / 2) (a * 2 + n % 2) in
    let r = turned k (n / 2) (a * 2 + n % 2) in
    (turned_more k n a (bit_at rest) r.0 (r.1 0), λ i. ap (bit_at rest) (omega arith) ∙ r.1 (suc i) ∙ bit_at_pushed a (n % 2) i (omega arith))

pub is_one-turned : (n i : ℕ) → i < 8 → is_one (reverse_bits w8 n) i ≡ is_one n (7 - i)
is_one-turned n i h = ap (λ d. d == 1) ((turned 8 n 0).0 i h)

-- ---- a byte at its place in a block

pub byte_value-is : (bytes : List ℕ) (i q p : ℕ) → i / 8 ≡ q → i % 8 ≡ p → byte_value bytes i ≡ is_one (get_or bytes q 0) (7 - p)
unfolding byte_value
byte_value-is bytes i q p e f = ap₂ (λ a b. is_one (get_or bytes a 0) (7 - b)) e f

pub byte_value-past : (bytes : List ℕ) (i : ℕ) → 8 * length bytes ≤ i → byte_value bytes i ≡ false
byte_value-past bytes i h = byte_value-is bytes i _ _ refl refl ∙ rw (get_or_past bytes (i / 8) 0 (omega arith)) (is_one-zero (7 - i % 8))

-- the same where value j of a byte is its digit `place j`
pub placed-is : (place : ℕ → ℕ) (bytes : List ℕ) (i q p : ℕ) → i / 8 ≡ q → i % 8 ≡ p → placed_value place bytes i ≡ is_one (get_or bytes q 0) (place p)
unfolding placed_value
placed-is place bytes i q p e f = ap₂ (λ a b. is_one (get_or bytes a 0) (place b)) e f

placed-past : (place : ℕ → ℕ) (bytes : List ℕ) (i : ℕ) → 8 * length bytes ≤ i → placed_value place bytes i ≡ false
placed-past place bytes i h = placed-is place bytes i _ _ refl refl ∙ rw (get_or_past bytes (i / 8) 0 (omega arith)) (is_one-zero (place (i % 8)))

pub placed-highest : (bytes : List ℕ) (i : ℕ) → placed_value (λ j. 7 - j) bytes i ≡ byte_value bytes i
placed-highest bytes i = placed-is (λ j. 7 - j) bytes i _ _ refl refl ∙ sym (byte_value-is bytes i _ _ refl refl)

pub placed-lowest : (bytes : List ℕ) (i : ℕ) → placed_value (λ j. j) bytes i ≡ value_at 8 bytes i
placed-lowest bytes i = placed-is (λ j. j) bytes i _ _ refl refl ∙ sym (value_at-is 8 bytes i)

moved_from : (w n d r j : ℕ) → IsShiftedLeft w n d r → d ≤ j → j < w → is_one r j ≡ is_one n (j - d)
moved_from w n d r j is h k = grind (arith, is.moved (j - d))

byte_step : (j p : ℕ) (q m n v : Bool) → q ≡ (m || n) → m ≡ (nat_lt j (8 * p) && v) → (j < 8 * p → n ≡ false)
    → (8 * p ≤ j → j < 8 * (p + 1) → n ≡ v) → (8 * (p + 1) ≤ j → n ≡ false) → q ≡ (nat_lt j (8 * (p + 1)) && v)
byte_step j p q m n v or old below inside past = grind (arith, nat_tests)

pub byte_added : (w m n d r q p : ℕ) (place : ℕ → ℕ) (bytes : List ℕ)
    → ((j : ℕ) → j < w → is_one m j ≡ (nat_lt j (8 * p) && placed_value place bytes j))
    → ((i : ℕ) → i < 8 → is_one n i ≡ is_one (get_or bytes p 0) (place i)) → n < 2 ^ 8 → d ≡ 8 * p → IsShiftedLeft w n d r
    → IsEither w m r q → (j : ℕ) → j < w → is_one q j ≡ (nat_lt j (8 * (p + 1)) && placed_value place bytes j)
byte_added w m n d r q p place bytes old ordered small index moved either j within =
    byte_step j p _ _ _ _ (is_one-either w m r q j either within) (old j within) (λ before. ap (λ x. x == 1) (moved.zeros j (omega arith)))
    (λ from inside. moved_from w n d r j moved (omega arith) within ∙ ordered (j - d) (omega arith)
    ∙ sym (placed-is place bytes j p (j - d) (omega arith) (omega arith)))
    (λ past. moved_from w n d r j moved (omega arith) within ∙ ap (λ x. x == 1) (bit_at_above n 8 (j - d) small (omega arith)))

pub bytes_ended : (w m n : ℕ) (place : ℕ → ℕ) (bytes : List ℕ) → length bytes ≤ n
    → ((j : ℕ) → j < w → is_one m j ≡ (nat_lt j (8 * n) && placed_value place bytes j)) → (j : ℕ) → j < w
    → is_one m j ≡ placed_value place bytes j
bytes_ended w m n place bytes h digits j within = grind (arith, nat_tests, digits j within, placed-past place bytes j)

-- ---- the bytes of one block: w is the width, s bytes, and there are n bytes in all

-- of what the code computes: b is what `bits()` returned
pub whole_bytes : (w b : ℕ) → IsWidth w → b ≡ w → w ≡ 8 * (b / 8)
whole_bytes w b width e = omega (arith, width.whole_bytes)

pub first_byte_below : (w b k n : ℕ) → IsWidth w → b ≡ w → k < blocks_for w (8 * n) → k * (b / 8) < n
first_byte_below w b k n width e h =
    let past : n ≤ k * (b / 8) → 8 * n ≤ k * w = λ le. rw (whole_bytes w b width e) (omega arith) in
    grind (arith, blocks_for-least w (8 * n) k width.positive, past)

part_at : (bytes : List ℕ) (a b s q : ℕ) → b ≡ min (a + s) (length bytes) → a < length bytes → q < s → get_or (slice_range bytes a b) q 0 ≡ get_or bytes (a + q) 0
part_at bytes a b s q be below h = grind (arith, get_or-take, get_or-drop, get_or_past, length-take)

pub part-values : (w s k : ℕ) (place : ℕ → ℕ) (bytes : List ℕ) (a b : ℕ) → w ≡ 8 * s → a ≡ k * s
    → b ≡ min (a + s) (length bytes) → a < length bytes → (j : ℕ) → j < w
    → placed_value place (slice_range bytes a b) j ≡ placed_value place bytes (k * w + j)
part-values w s k place bytes a b e ae be below j within =
    let first : k * w ≡ 8 * a = rw (e, ae) (omega arith) in
    placed-is place (slice_range bytes a b) j (j / 8) (j % 8) refl refl
    ∙ ap (λ m. is_one m (place (j % 8))) (part_at bytes a b s (j / 8) be below (omega arith))
    ∙ sym (placed-is place bytes (k * w + j) (a + j / 8) (j % 8) (omega arith) (omega arith))

-- ---- the list

pub length-values_of_byte : (byte : ℕ) → length (values_of_byte byte) ≡ 8
unfolding values_of_byte
length-values_of_byte byte = refl

get_or-values_of_byte : (byte j : ℕ) → j < 8 → get_or (values_of_byte byte) j false ≡ is_one byte (7 - j)
unfolding values_of_byte
get_or-values_of_byte byte j h = get_or-map-range_with_len (λ p. is_one byte (7 - p)) 0 8 j j false h (omega arith)

pub length-values_of_bytes : (bytes : List ℕ) → length (values_of_bytes bytes) ≡ 8 * length bytes
length-values_of_bytes [] = refl
length-values_of_bytes (byte ∷ bytes) = rw length-append (omega (arith, length-values_of_byte byte, length-values_of_bytes bytes))

pub get_or-values_of_bytes : (bytes : List ℕ) (i : ℕ) → get_or (values_of_bytes bytes) i false ≡ byte_value bytes i
get_or-values_of_bytes [] i = sym (byte_value-past [] i (omega arith))
get_or-values_of_bytes (byte ∷ bytes) i =
    let here = byte_value-is (byte ∷ bytes) i 0 i in
    let there = byte_value-is (byte ∷ bytes) i (suc ((i - 8) / 8)) ((i - 8) % 8) in
    let rest = byte_value-is bytes (i - 8) ((i - 8) / 8) ((i - 8) % 8) in
    let past = get_or-append_right (values_of_byte byte) (values_of_bytes bytes) 8 i false (length-values_of_byte byte) in
    grind (arith, here, there, rest, past, get_or_append_left, length-values_of_byte byte, get_or-values_of_byte byte i, get_or-values_of_bytes bytes (i - 8))

-- ---- the blocks

pub blocks-placed : (w : ℕ) (ms : List ℕ) (place : ℕ → ℕ) (bytes : List ℕ) → 0 < w
    → length ms ≡ blocks_for w (8 * length bytes)
    → ((q j : ℕ) → q < length ms → j < w → is_one (get_or ms q 0) j ≡ placed_value place bytes (q * w + j)) → (i : ℕ)
    → value_at w ms i ≡ placed_value place bytes i
blocks-placed w ms place bytes pos count digits i =
    grind (arith, value_at-is, value_at-past, digits (i / w) (i % w), mod-lt i pos, div-add-mod' i w, placed-past place bytes i, blocks_for-below w (8 * length bytes) i pos)

-- ---- the bytes of a list

-- the block of a byte: of n bytes, that one at k times as many as a block has
pub block_of_byte : (w b k n len : ℕ) → IsWidth w → b ≡ w → n ≡ blocks_for 8 len → k * (b / 8) < n → k < blocks_for w len
block_of_byte w b k n len width wide is within =
    let bytes = whole_bytes w b width wide in
    let none : blocks_for w len ≤ k → len ≤ k * (b / 8) * 8 = λ le.
    let fewer = mul-le-mul_right w le in
    let whole : k * w ≡ k * (b / 8) * 8 = rw bytes (omega arith) in
    omega (arith, fewer, whole, blocks_for-enough w len width.positive) in
    grind (arith, none, blocks_for-least 8 len (k * (b / 8)))

-- one of the whole blocks
pub first_below : (s k n : ℕ) → 0 < s → k < n / s → k * s + s ≤ n
first_below s k n pos below =
    let le = mul-le-mul_right s (let e : k + 1 ≤ n / s = omega (arith, below) in e) in
    let whole = div-mul-le_self n s in
    omega (arith, le, whole)

-- a byte of a block, moved down
pub moved_down : (w m d r p j : ℕ) → IsShiftedRight w m d r → d ≡ 8 * p → d + j < w → is_one r j ≡ is_one m (8 * p + j)
moved_down w m d r p j is at within = ap (λ b. b == 1) (is.moved j (omega (arith, within)) ∙ ap (bit_at m) (omega (arith, at)))

-- one byte more of a block
pub byte_more : (bs ns : List ℕ) (x n p : ℕ) (place : ℕ → ℕ) (f : ℕ → ℕ → Bool) → length bs ≡ n + p → ns ≡ bs ++ x ∷ []
    → ((j : ℕ) → j < 8 → is_one x (place j) ≡ f p j)
    → ((q j : ℕ) → q < p → j < 8 → is_one (get_or bs (n + q) 0) (place j) ≡ f q j)
    → (q j : ℕ) → q < p + 1 → j < 8 → is_one (get_or ns (n + q) 0) (place j) ≡ f q j
byte_more bs ns x n p place f long is here before q j within index =
    grind (arith, is, get_or_append_left bs (x ∷ []) 0 (n + q), get_or-append_right bs (x ∷ []) (n + p) (n + q) 0 long, before q j, here j index)

-- the bytes of one block more, of n bytes before it
pub bytes_more : (w b k n c m : ℕ) (ms bs ns : List ℕ) (place : ℕ → ℕ) → IsWidth w → b ≡ w → c ≤ b / 8 → n ≡ k * (b / 8)
    → m ≡ get_or ms k 0 → ((q : ℕ) → q < n → get_or ns q 0 ≡ get_or bs q 0)
    → ((p j : ℕ) → p < c → j < 8 → is_one (get_or ns (n + p) 0) (place j) ≡ is_one m (8 * p + j))
    → ((q j : ℕ) → q < k * (b / 8) → j < 8 → is_one (get_or bs q 0) (place j) ≡ value_at w ms (8 * q + j))
    → (q j : ℕ) → q < n + c → j < 8 → is_one (get_or ns q 0) (place j) ≡ value_at w ms (8 * q + j)
bytes_more w b k n c m ms bs ns place width wide few first read kept here before q j within index =
    ⊎_elim
    (λ (early : q < n). ap (λ x. is_one x (place j)) (kept q early) ∙ before q j (omega (arith, early, first)) index)
    (λ (late : n ≤ q).
    let bytes = whole_bytes w b width wide in
    let p = q - n in
    let at : n + p ≡ q = omega (arith, late) in
    let whole : k * w ≡ 8 * n = rw (bytes, first) (omega arith) in
    let inside : 8 * p + j < w = omega (arith, bytes, within, late, few, index) in
    ap (λ x. is_one (get_or ns x 0) (place j)) (sym at)
    ∙ here p j (omega (arith, within, late)) index
    ∙ ap (λ x. is_one x (8 * p + j)) read
    ∙ sym (value_at-index w ms k (8 * p + j) inside)
    ∙ ap (value_at w ms) (let e : k * w + (8 * p + j) ≡ 8 * q + j = omega (arith, whole, at) in e))
    (cases_lt q n)

-- all of them
pub bytes_values : (w len : ℕ) (ms bs : List ℕ) → length bs ≡ blocks_for 8 len → IsZeroFrom w ms len
    → ((k j : ℕ) → k < length bs → j < 8 → is_one (get_or bs k 0) (7 - j) ≡ value_at w ms (8 * k + j)) → (i : ℕ)
    → byte_value bs i ≡ value_at w ms i
bytes_values w len ms bs long tail digits i =
    ⊎_elim
    (λ (within : i / 8 < length bs). byte_value-is bs i (i / 8) (i % 8) refl refl
    ∙ digits (i / 8) (i % 8) within (omega arith) ∙ ap (value_at w ms) (let e : 8 * (i / 8) + i % 8 ≡ i = omega arith in e))
    (λ (past : length bs ≤ i / 8). byte_value-past bs i (omega (arith, past)) ∙ sym (tail.zero_tail i (omega (arith, past, long, blocks_for-enough 8 len (omega arith)))))
    (cases_lt (i / 8) (length bs))

-- what two clauses say of the value, if there is one
pub in_ok : {V E : Type 0} (r : Result V E) (P Q R : V → Type 0) → ((x : V) → P x → Q x → R x) → IfOk r P → IfOk r Q → IfOk r R
in_ok (Ok x) P Q R then one other = then x one other
in_ok (Err e) P Q R then one other = tt

-- the same of bytes whose first value is the lowest digit
pub bytes_values_lsb : (w len : ℕ) (ms bs : List ℕ) → length bs ≡ blocks_for 8 len → IsZeroFrom w ms len
    → ((k j : ℕ) → k < length bs → j < 8 → is_one (get_or bs k 0) j ≡ value_at w ms (8 * k + j)) → (i : ℕ) → value_at 8 bs i ≡ value_at w ms i
bytes_values_lsb w len ms bs long tail digits i =
    ⊎_elim
    (λ (within : i / 8 < length bs). value_at-is 8 bs i ∙ digits (i / 8) (i % 8) within (omega arith) ∙ ap (value_at w ms) (let e : 8 * (i / 8) + i % 8 ≡ i = omega arith in e))
    (λ (past : length bs ≤ i / 8). value_at-past 8 bs i past ∙ sym (tail.zero_tail i (omega (arith, past, long, blocks_for-enough 8 len (omega arith)))))
    (cases_lt (i / 8) (length bs))

-- the list that they spell goes on with false values up to a whole byte
pub values_of_bytes_are : (w len r : ℕ) (ms bs : List ℕ) (v : Bits)
    → record { values = values_of w ms len; capacity = r } ≡ v → IsZeroFrom w ms len → length bs ≡ blocks_for 8 len
    → ((i : ℕ) → byte_value bs i ≡ value_at w ms i)
    → values_of_bytes bs ≡ v.values ++ replicate (8 * length bs - length v.values) false
values_of_bytes_are w len r ms bs v e tail long same =
    let more : ℕ = 8 * length bs - length v.values in
    let enough = blocks_for-enough 8 len (omega arith) in
    ext_get_or false (values_of_bytes bs) (v.values ++ replicate more false)
    (length-values_of_bytes bs ∙ omega (arith, length-append v.values (replicate more false), length-replicate more false, length_from_view w len r ms v e, enough, long))
    (λ i within.
    let here = get_or-values_of_bytes bs i ∙ same i ∙ sym (value_in_view w len r ms v e tail i) in
    let front = get_or_append_left v.values (replicate more false) false i in
    let rest = get_or-append_right v.values (replicate more false) (length v.values) i false refl in
    let none = get_or-replicate more (i - length v.values) false false in
    let past = get_or_past (replicate more false) (i - length v.values) false in
    grind (arith, length-replicate more false, get_or_past v.values i false))
