-- The ones of the blocks of a list are its true values.
use Rattle.std.proofs.Common.{◌≡◌, ℕ, zero, suc, ◌+◌, ◌*◌, ◌/◌, ◌%◌, ◌^◌, ◌<◌, Bool, cond, List, [], ◌∷◌, ◌++◌, map, length}
use Rattle.std.proofs.{Common.{take, drop, count_ones, refl, sym, ap, ◌∙◌, arith, take_all}, Math.Nat.pow-suc}
use Rattle.std.proofs.lemmas.List.{take-append-drop, drop-take, take-take, Sums.{sum_by-append, sum_by-cons}}
use Rattle.std.{proofs.lemmas.List.FromFn.sum_by-map-range_with_len_more, specs.Int.bit_at}
use Rattle.std.proofs.lemmas.Nat.{ones_cat, Bits.{bit_at_lowest, bit_at-suc}}
use Rattle.std.specs.List.{sum_by, count_by, range_with_len}
use Rattle.bit_blocks.{specs.Bits.{digit_of, number_of, blocks_of, blocks_for}, proofs.{BitsLemmas.blocks_for-enough, LowestLemmas.{ones_zero, ones_one}}}

-- how many values are true
abbrev trues : List Bool → ℕ
trues values = count_by (λ value. value) values

ones_step : (b : Bool) (n : ℕ) → count_ones (n * 2 + digit_of b) ≡ cond b 1 0 + count_ones n
ones_step b n = grind (arith, ones_cat 1 n 1, ones_cat 1 n 0, ones_one, ones_zero)

ones-number_of : (bs : List Bool) → count_ones (number_of bs) ≡ trues bs
unfolding number_of
ones-number_of [] = ones_zero
ones-number_of (b ∷ bs) =
    ones_step b (number_of bs) ∙ ap (λ n. cond b 1 0 + n) (ones-number_of bs) ∙ sym (sum_by-cons (λ value. cond value 1 0) b bs)

-- a front is a shorter front and what follows it
pub take_split : {X : Type 0} (a b : ℕ) (values : List X) → take (a + b) values ≡ take a values ++ take b (drop a values)
take_split a b values =
    sym (take-append-drop a (take (a + b) values))
    ∙ ap (λ x. x ++ drop a (take (a + b) values)) (take-take a (a + b) values (omega arith))
    ∙ ap (λ x. take a values ++ x) (drop-take a b values)

front_ones : (w c : ℕ) (values : List Bool) → sum_by count_ones (map (λ k. number_of (take w (drop (k * w) values))) (range_with_len 0 c)) ≡ trues (take (c * w) values)
front_ones w zero values = ap (λ x. trues (take x values)) (let e : 0 ≡ 0 * w = omega arith in e)
front_ones w (suc c) values =
    let f : ℕ → ℕ = λ k. number_of (take w (drop (k * w) values)) in
    ap (λ x. sum_by count_ones (map f (range_with_len 0 x))) (let e : suc c ≡ c + 1 = omega arith in e)
    ∙ sum_by-map-range_with_len_more count_ones f 0 c c (omega arith)
    ∙ ap (λ x. x + count_ones (f c)) (front_ones w c values)
    ∙ ap (λ x. trues (take (c * w) values) + x) (ones-number_of (take w (drop (c * w) values)))
    ∙ sym (sum_by-append (λ value. cond value 1 0) (take (c * w) values) (take w (drop (c * w) values)))
    ∙ ap trues (sym (take_split (c * w) w values))
    ∙ ap (λ x. trues (take x values)) (let e : c * w + w ≡ suc c * w = omega arith in e)

pub blocks_ones : (w : ℕ) (values : List Bool) → 0 < w → sum_by count_ones (blocks_of w values) ≡ count_by (λ value. value) values
unfolding blocks_of
blocks_ones w values pos =
    front_ones w (blocks_for w (length values)) values
    ∙ ap trues (take_all (blocks_for w (length values) * w) values (blocks_for-enough w (length values) pos))

-- the digits from index a + 1 on are those of the half from index a on
digits_of_half : (m a n : ℕ) → sum_by (bit_at m) (range_with_len (a + 1) n) ≡ sum_by (bit_at (m / 2)) (range_with_len a n)
digits_of_half m a zero = refl
digits_of_half m a (suc n) =
    let first = ap (bit_at m) (let e : a + 1 ≡ suc a = omega arith in e) ∙ bit_at-suc m a in
    omega (arith, first, sum_by-cons (bit_at m) (a + 1) (range_with_len (a + 1 + 1) n), digits_of_half m (a + 1) n, sum_by-cons (bit_at (m / 2)) a (range_with_len (a + 1) n))

-- a digit has itself many ones
ones_of_digit : (d : ℕ) → d < 2 → count_ones d ≡ d
ones_of_digit d low = grind (arith, ones_zero, ones_one)

-- the count of ones is the sum of the digits
pub ones_are_digits : (w m : ℕ) → m < 2 ^ w → count_ones m ≡ sum_by (bit_at m) (range_with_len 0 w)
ones_are_digits zero m fits = ap count_ones (let e : m ≡ 0 = omega arith in e) ∙ ones_zero
ones_are_digits (suc w) m fits =
    let halves : m ≡ m / 2 * 2 ^ 1 + m % 2 = omega arith in
    let parts = ap count_ones halves ∙ ones_cat 1 (m / 2) (m % 2) (omega arith) in
    let low : count_ones (m % 2) ≡ m % 2 = ones_of_digit (m % 2) (omega arith) in
    omega (arith, parts, low, bit_at_lowest m, ones_are_digits w (m / 2) (omega (arith, pow-suc 2 w)), digits_of_half m 0 w, sum_by-cons (bit_at m) 0 (range_with_len 1 w))
