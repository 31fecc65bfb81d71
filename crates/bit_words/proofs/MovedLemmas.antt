-- Lists whose values moved, and copies of a range, by index.
use Rattle.std.proofs.Common.{◌≡◌, ℕ, ◌+◌, ◌-◌, ◌^◌, ◌<◌, ◌≤◌, min, false, ◌&&◌, nat_le, nat_lt, List, ◌++◌, length, take, drop, replicate, map, All, ap, arith, length-take, length-drop}
use Rattle.std.proofs.Common.{length-append, get_or-take, get_or-drop}
use Rattle.std.proofs.lemmas.{Bool.Decides.nat_tests, List.{get_or-append_right, get_or-replicate, get_or_append_left, length-replicate, take-map}}
use Rattle.bit_blocks.specs.{Bits.blocks_for, Ranges.values_in_range, Storage.{value_at, values_of, IsPacked}}
use Rattle.bit_blocks.proofs.{BitsLemmas.{blocks_for-above, blocks_for-le}, PackedLemmas.value_at-take, StorageLemmas.{get_or-values_of, length-values_of, values_of-same}}

pub values_of-up : (w : ℕ) (ms ns : List ℕ) (n d : ℕ) → ((i : ℕ) → value_at w ns i ≡ (nat_lt i n && (nat_le d i && value_at w ms (i - d))))
    → values_of w ns n ≡ take n (replicate d false ++ values_of w ms n)
values_of-up w ms ns n d values =
    let bs = values_of w ms n in
    values_of-same w ns n _ (omega (arith, length-take n (replicate d false ++ bs), length-append (replicate d false) bs, length-replicate d false, length-values_of w ms n)) (λ i below.
    let left = get_or_append_left (replicate d false) bs false i in
    let right = get_or-append_right (replicate d false) bs d i false (length-replicate d false) in
    let zero = get_or-replicate d i false false in
    let own = get_or-values_of w ms n (i - d) false in
    grind (arith, nat_tests, values i, get_or-take n (replicate d false ++ bs) i false below, length-replicate d false))

pub values_of-down : (w : ℕ) (ms ns : List ℕ) (n d : ℕ) → ((i : ℕ) → n ≤ i → value_at w ms i ≡ false) → ((i : ℕ) → value_at w ns i ≡ value_at w ms (i + d))
    → values_of w ns n ≡ drop d (values_of w ms n) ++ replicate (min d n) false
values_of-down w ms ns n d tail values =
    let bs = values_of w ms n in
    let rest = replicate (min d n) false in
    let long : length (drop d bs) ≡ n - d = omega (arith, length-drop d bs, length-values_of w ms n) in
    values_of-same w ns n _ (omega (arith, long, length-append (drop d bs) rest, length-replicate (min d n) false)) (λ i below.
    let left = get_or_append_left (drop d bs) rest false i in
    let right = get_or-append_right (drop d bs) rest (n - d) i false long in
    let zero = get_or-replicate (min d n) (i - (n - d)) false false in
    let own = get_or-values_of w ms n (d + i) false in
    let same = ap (value_at w ms) (let e : i + d ≡ d + i = omega arith in e) in
    let past = tail (i + d) in
    grind (arith, nat_tests, values i, get_or-drop d bs i false, long))

pub values_of-part : (w : ℕ) (ms ns : List ℕ) (n a b : ℕ) → a ≤ b → b ≤ n → ((i : ℕ) → i < b → value_at w ns i ≡ (nat_le a i && value_at w ms i))
    → values_of w ns b ≡ replicate a false ++ values_in_range a b (values_of w ms n)
values_of-part w ms ns n a b le within values =
    let bs = values_of w ms n in
    let part = values_in_range a b bs in
    values_of-same w ns b _ (omega (arith, length-append (replicate a false) part, length-replicate a false, length-take (b - a) (drop a bs), length-drop a bs, length-values_of w ms n)) (λ i below.
    let left = get_or_append_left (replicate a false) part false i in
    let right = get_or-append_right (replicate a false) part a i false (length-replicate a false) in
    let zero = get_or-replicate a i false false in
    let own = get_or-values_of w ms n (a + (i - a)) false in
    grind (arith, nat_tests, values i below, length-replicate a false, get_or-take (b - a) (drop a bs) (i - a) false, get_or-drop a bs (i - a) false))

-- ---- the copy of a range

-- the blocks of as many values as it ends with
pub blocks_taken : {X : Type 0} (w b n count : ℕ) (xs : List X) → 0 < w → b ≤ n → length xs ≡ blocks_for w n → count ≡ blocks_for w b → length (take count xs) ≡ blocks_for w b
blocks_taken w b n count xs pos le own is = let fewer = blocks_for-le w b n pos le in omega (arith, length-take count xs, fewer, own, is)

pub value_copied : {X : Type 0} (f : X → ℕ) (w a b count : ℕ) (xs ys zs : List X) → 0 < w → count ≡ blocks_for w b
    → ((i : ℕ) → value_at w (map f ys) i ≡ (nat_le a i && value_at w (map f (take count xs)) i))
    → ((i : ℕ) → value_at w (map f zs) i ≡ (nat_lt i b && value_at w (map f ys) i)) → (i : ℕ) → i < b → value_at w (map f zs) i ≡ (nat_le a i && value_at w (map f xs) i)
value_copied f w a b count xs ys zs pos is copied cut i below =
    let inside = blocks_for-above w b i pos below in
    let same = value_at-take w count (map f xs) i (omega (arith, inside, is)) in
    let taken = ap (λ ms. value_at w ms i) (take-map f count xs) in
    grind (arith, nat_tests, copied i, cut i)

pub part_packed : {X : Type 0} (w a b : ℕ) (f : X → ℕ) (P : X → Type 0) (ys zs : List X) → b < 2 ^ 64 → All P zs → length zs ≡ blocks_for w b
    → ((i : ℕ) → value_at w (map f zs) i ≡ (nat_lt i b && value_at w (map f ys) i)) → IsPacked w f P zs b
part_packed w a b f P ys zs fits each long cut = record {
  each = each;
  count = long;
  tail = record { zero_tail = λ i past. let is = cut i in grind (arith, nat_tests) };
  fits = fits;
}
