-- How many values of a span are true, by the ones of its blocks.
use Rattle.std.proofs.Common.{◌≡◌, ℕ, zero, suc, ◌+◌, ◌-◌, ◌*◌, ◌^◌, ◌<◌, ◌≤◌, ◌==◌, Bool, false, ◌&&◌, cond, List, ◌∷◌}
use Rattle.std.proofs.Common.{◌++◌, map, length, get_or, take, drop, bit_and, count_ones, refl, sym, ap, ◌∙◌, arith}
use Rattle.std.proofs.{Common.mul-le-mul_right, Math.Seq.drop-cons, lemmas.Bool.Decides.nat_tests}
use Rattle.std.proofs.lemmas.List.{drop-map, length-map, take-map, FromFn.length-range_with_len}
use Rattle.std.proofs.lemmas.List.Sums.{count_by-le-length, sum_by-append, sum_by-cons}
use Rattle.std.proofs.lemmas.Nat.{and_le_l, Bits.{bit_at_and, bit_at-lt}}
use Rattle.std.specs.{Int.bit_at, List.{count_by, range_with_len, sum_by}}
use Rattle.bit_blocks.{specs.{Digits.is_one, Storage.{ones_in, value_at}, Ranges.in_range}, proofs.{CountLemmas.ones_in-numbers, OnesLemmas.ones_are_digits, StorageLemmas.value_at-index}}

-- a range in two parts
range-parts : (a m n : ℕ) → range_with_len a (m + n) ≡ range_with_len a m ++ range_with_len (a + m) n
range-parts a zero n = ap (range_with_len a) (let e : zero + n ≡ n = omega arith in e) ∙ ap (λ x. range_with_len x n) (let e : a ≡ a + 0 = omega arith in e)
range-parts a (suc m) n =
    ap (range_with_len a) (let e : suc m + n ≡ suc (m + n) = omega arith in e)
    ∙ ap (λ xs. a ∷ xs) (range-parts (a + 1) m n ∙ ap (λ x. range_with_len (a + 1) m ++ range_with_len x n) (let e : a + 1 + m ≡ a + suc m = omega arith in e))

pub sum-parts : (f : ℕ → ℕ) (a b c : ℕ) → a ≤ b → b ≤ c → sum_by f (range_with_len a (c - a)) ≡ sum_by f (range_with_len a (b - a)) + sum_by f (range_with_len b (c - b))
sum-parts f a b c le also =
    ap (λ n. sum_by f (range_with_len a n)) (let e : c - a ≡ (b - a) + (c - b) = omega arith in e)
    ∙ ap (sum_by f) (range-parts a (b - a) (c - b))
    ∙ sum_by-append f (range_with_len a (b - a)) (range_with_len (a + (b - a)) (c - b))
    ∙ ap (λ x. sum_by f (range_with_len a (b - a)) + sum_by f (range_with_len x (c - b))) (let e : a + (b - a) ≡ b = omega arith in e)

pub count-parts : (f : ℕ → Bool) (a b c : ℕ) → a ≤ b → b ≤ c → count_by f (range_with_len a (c - a)) ≡ count_by f (range_with_len a (b - a)) + count_by f (range_with_len b (c - b))
count-parts f = sum-parts (λ i. cond (f i) 1 0)

digit_counts : (d : ℕ) → d < 2 → d ≡ cond (d == 1) 1 0
digit_counts d small = grind (arith, nat_tests)

-- digits that are values, and digits that are 0
digits_counted : (f : ℕ → Bool) (x p q n : ℕ) → ((j : ℕ) → j < n → is_one x (p + j) ≡ f (q + j)) → sum_by (bit_at x) (range_with_len p n) ≡ count_by f (range_with_len q n)
digits_counted f x p q zero same = refl
digits_counted f x p q (suc n) same =
    let here : is_one x p ≡ f q = ap (is_one x) (let e : p ≡ p + 0 = omega arith in e) ∙ same 0 (omega arith) ∙ ap f (let e : q + 0 ≡ q = omega arith in e) in
    let rest = digits_counted f x (p + 1) (q + 1) n
    (λ j below. ap (is_one x) (let e : p + 1 + j ≡ p + suc j = omega arith in e) ∙ same (suc j) (omega arith)
    ∙ ap f (let e : q + suc j ≡ q + 1 + j = omega arith in e)) in
    let one : bit_at x p ≡ cond (f q) 1 0 = digit_counts (bit_at x p) (bit_at-lt x p) ∙ ap (λ b. cond b 1 0) here in
    omega (arith, one, rest, sum_by-cons (bit_at x) p (range_with_len (p + 1) n), sum_by-cons (λ i. cond (f i) 1 0) q (range_with_len (q + 1) n))

zeros_counted : (x p n : ℕ) → ((j : ℕ) → p ≤ j → j < p + n → is_one x j ≡ false) → sum_by (bit_at x) (range_with_len p n) ≡ 0
zeros_counted x p zero none = refl
zeros_counted x p (suc n) none =
    let zero_here : bit_at x p ≡ 0 = digit_counts (bit_at x p) (bit_at-lt x p) ∙ ap (λ b. cond b 1 0) (none p (omega arith) (omega arith)) in
    let rest = zeros_counted x (p + 1) n (λ j from to. none j (omega arith) (omega arith)) in
    omega (arith, zero_here, rest, sum_by-cons (bit_at x) p (range_with_len (p + 1) n))

-- a block whose ones are the true values of a span
pub ones_of_span : (f : ℕ → Bool) (w k a b x : ℕ) → x < 2 ^ w → k * w ≤ a → a ≤ b → b ≤ k * w + w
    → ((j : ℕ) → j < w → is_one x j ≡ (in_range a b (k * w + j) && f (k * w + j)))
    → count_ones x ≡ count_by f (range_with_len a (b - a))
ones_of_span f w k a b x small from le to digits =
    let start = k * w in
    let p = a - start in
    let q = b - start in
    let parts = sum-parts (bit_at x) 0 p w (omega arith) (omega arith) in
    let more = sum-parts (bit_at x) p q w (omega arith) (omega arith) in
    let front = zeros_counted x 0 (p - 0) (λ j _ below. grind (arith, nat_tests, digits j (omega arith))) in
    let rest = zeros_counted x q (w - q) (λ j past below. grind (arith, nat_tests, digits j (omega arith))) in
    let mid = digits_counted f x p a (q - p) (λ j below. grind (arith, nat_tests, digits (p + j) (omega arith), ap f (let e : start + (p + j) ≡ a + j = omega arith in e))) in
    let len : range_with_len a (q - p) ≡ range_with_len a (b - a) = ap (range_with_len a) (omega arith) in
    let whole : range_with_len 0 (w - 0) ≡ range_with_len 0 w = ap (range_with_len 0) (let e : w - 0 ≡ w = omega arith in e) in
    omega (arith, ones_are_digits w x small, ap (sum_by (bit_at x)) whole, parts, more, front, rest, mid, ap (count_by f) len)

-- whole blocks
ones_of_numbers : (w first n : ℕ) (ms : List ℕ) → ((k : ℕ) → get_or ms k 0 < 2 ^ w) → first + n ≤ length ms
    → sum_by count_ones (take n (drop first ms)) ≡ count_by (value_at w ms)
    (range_with_len (first * w) ((first + n) * w - first * w))
ones_of_numbers w first zero ms small within =
    ap (λ m. count_by (value_at w ms) (range_with_len (first * w) m)) (let e : 0 ≡ (first + 0) * w - first * w = omega arith in e)
ones_of_numbers w first (suc n) ms small within =
    let f = value_at w ms in
    let next : suc first * w ≡ first * w + w = omega arith in
    let end : (suc first + n) * w ≡ (first + suc n) * w = ap (λ x. x * w) (let e : suc first + n ≡ first + suc n = omega arith in e) in
    let more : suc first * w ≤ (suc first + n) * w = mul-le-mul_right w (let e : suc first ≤ suc first + n = omega arith in e) in
    let block = ones_of_span f w first (first * w) (first * w + w) (get_or ms first 0) (small first) (omega arith)
    (omega arith) (omega arith) (λ j index. sym (value_at-index w ms first j index) ∙ grind (arith, nat_tests)) in
    let rest = ones_of_numbers w (suc first) n ms small (omega arith) in
    let parts = count-parts f (first * w) (suc first * w) ((suc first + n) * w) (omega arith) more in
    ap (λ xs. sum_by count_ones (take (suc n) xs)) (drop-cons ms first 0 (omega arith))
    ∙ sum_by-cons count_ones (get_or ms first 0) (take n (drop (suc first) ms))
    ∙ omega (arith, block, rest, parts, ap (λ x. count_by f (range_with_len (first * w) (x - first * w))) next, ap (λ x. count_by f (range_with_len (first * w) (x - first * w))) end)

pub ones_of_blocks : {X : Type 0} (number : X → ℕ) (w first end : ℕ) (xs ys : List X)
    → ((k : ℕ) → get_or (map number xs) k 0 < 2 ^ w) → first ≤ end → end ≤ length xs
    → ys ≡ take (end - first) (drop first xs) → ones_in number ys ≡ count_by (value_at w (map number xs))
    (range_with_len (first * w) (end * w - first * w))
ones_of_blocks number w first end xs ys small le within is =
    let ms = map number xs in
    let e : first + (end - first) ≡ end = omega arith in
    ones_in-numbers number ys
    ∙ ap (λ zs. sum_by count_ones (map number zs)) is
    ∙ ap (sum_by count_ones) (sym (take-map number (end - first) (drop first xs)) ∙ ap (take (end - first)) (sym (drop-map number first xs)))
    ∙ ones_of_numbers w first (end - first) ms small (rw (length-map, e) within)
    ∙ ap (λ n. count_by (value_at w ms) (range_with_len (first * w) (n * w - first * w))) e

is_one-and : (m n j : ℕ) → is_one (bit_and m n) j ≡ (is_one m j && is_one n j)
is_one-and m n j = grind (arith, nat_tests, bit_at_and m n j, bit_at-lt m j, bit_at-lt n j)

-- a block under a mask, whose ones are a span
pub ones_of_mask : (w k a b mask m : ℕ) (ms : List ℕ) → get_or ms k 0 < 2 ^ w → k * w ≤ a → a ≤ b → b ≤ (k + 1) * w
    → m ≡ bit_and (get_or ms k 0) mask → ((j : ℕ) → j < w → is_one mask j ≡ in_range a b (k * w + j))
    → count_ones m ≡ count_by (value_at w ms) (range_with_len a (b - a))
ones_of_mask w k a b mask m ms small from le to is ones =
    ones_of_span (value_at w ms) w k a b m (rw is (omega (arith, and_le_l (get_or ms k 0) mask, small))) from le (omega arith) (λ j index.
    ap (λ x. is_one x j) is ∙ is_one-and (get_or ms k 0) mask j ∙ grind (arith, ones j index, value_at-index w ms k j index))

-- no more than indexes
pub count-le : (f : ℕ → Bool) (a n : ℕ) → count_by f (range_with_len a n) ≤ n
count-le f a n = omega (arith, count_by-le-length f (range_with_len a n), length-range_with_len a n)
