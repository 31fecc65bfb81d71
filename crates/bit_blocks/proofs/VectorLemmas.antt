-- What the calls of a bit vector cite: its length, its capacity and its list.
use Rattle.std.proofs.Common.{◌≡◌, ℕ, ◌+◌, ◌-◌, ◌*◌, ◌/◌, ◌^◌, ◌<◌, ◌≤◌, max, Bool, false, zero, suc, List, [], ◌∷◌, map}
use Rattle.std.proofs.Common.{length, get_or, refl, sym, ap, ◌∙◌, arith, Some, None, slice_get, All, mul-le-mul_right}
use Rattle.std.proofs.Common.{pow_pos}
use Rattle.std.proofs.lemmas.{Bool.Decides.nat_tests, List.{get_or-map, length-map, Elements.All-tail}}
use Rattle.std.proofs.lemmas.Nat.Bits.{bit_at-lt, bit_at-zero, same_from_bits_below}
use Rattle.std.proofs.lemmas.Option.{slice_get-get_or, slice_get_past}
use Rattle.std.specs.Int.{bit_at}
use Rattle.bit_blocks.specs.{Bits.{Bits, IsWithinCapacity, IsCapacityOfBlocks, blocks_for, capacity_of}, Digits.is_one}
use Rattle.bit_blocks.specs.Storage.{value_at, values_of, IsPacked}
use Rattle.bit_blocks.proofs.BitsLemmas.{blocks_for-enough, blocks_for-least}
use Rattle.bit_blocks.proofs.{StorageLemmas.{length-values_of, value_at-past, get_or-values_of, value_at-is, value_at-index}, Masks.is_one-zero}

-- ---- the length and the capacity

pub length_from_view : (w n r : ℕ) (ms : List ℕ) (v : Bits) → record { values = values_of w ms n; capacity = r } ≡ v → length v.values ≡ n
length_from_view w n r ms v e = sym (ap (λ b. length b.values) e) ∙ length-values_of w ms n

pub capacity_from_view : (r : ℕ) (bs : List Bool) (v : Bits) → record { values = bs; capacity = r } ≡ v → v.capacity ≡ r
capacity_from_view r bs v e = sym (ap (λ b. b.capacity) e)

pub no_longer_from_views : (w n m r s : ℕ) (ms os : List ℕ) (v u : Bits)
    → record { values = values_of w ms n; capacity = r } ≡ v → record { values = values_of w os m; capacity = s } ≡ u
    → length u.values ≤ length v.values → m ≤ n
no_longer_from_views w n m r s ms os v u e f h = omega (arith, length_from_view w n r ms v e, length_from_view w m s os u f)

pub le-capacity_of : (w blocks n : ℕ) → 0 < w → n < 2 ^ 64 → blocks_for w n ≤ blocks → n ≤ capacity_of w blocks
le-capacity_of w blocks n pos fits h = let a = mul-le-mul_right w h in omega (arith, blocks_for-enough w n pos)

pub capacity_of-short : (w blocks n : ℕ) → 0 < w → blocks < blocks_for w n → capacity_of w blocks < n
capacity_of-short w blocks n pos h = grind (arith, blocks_for-least w n blocks pos)

pub blocks_from_capacity : (w blocks n : ℕ) → 0 < w → n ≤ capacity_of w blocks → blocks_for w n ≤ blocks
blocks_from_capacity w blocks n pos h = grind (arith, capacity_of-short w blocks n pos)

pub capacity_of-max : (w a b : ℕ) → capacity_of w (max a b) ≡ max (capacity_of w a) (capacity_of w b)
capacity_of-max w a b = grind (arith, mul-le-mul_right)

-- the capacity that is asked for exactly
pub capacity_from_max : (w n m cap got count : ℕ) (ms : List ℕ) (v : Bits)
    → record { values = values_of w ms n; capacity = capacity_of w cap } ≡ v → count ≡ blocks_for w (n + m)
    → got ≡ max cap count → capacity_of w got ≡ max v.capacity (capacity_of w (blocks_for w (length v.values + m)))
capacity_from_max w n m cap got count ms v e is most =
    rw (length_from_view w n _ ms v e, capacity_from_view (capacity_of w cap) (values_of w ms n) v e)
    (ap (capacity_of w) (most ∙ ap (max cap) is) ∙ capacity_of-max w cap (blocks_for w (n + m)))

pub is_within_capacity : {X : Type 0} (w n cap : ℕ) (f : X → ℕ) (P : X → Type 0) (xs : List X) (v : Bits) → 0 < w
    → IsPacked w f P xs n → length xs ≤ cap → record { values = values_of w (map f xs) n; capacity = capacity_of w cap } ≡ v
    → IsWithinCapacity v
is_within_capacity w n cap f P xs v pos packed h e = record {
  holds_values = rw (length_from_view w n (capacity_of w cap) (map f xs) v e, capacity_from_view (capacity_of w cap) (values_of w (map f xs) n) v e)
      (le-capacity_of w cap n pos packed.fits (let c = packed.count in omega arith));
  fits = rw (capacity_from_view (capacity_of w cap) (values_of w (map f xs) n) v e) (omega arith);
}

pub is_capacity_of_blocks : {X : Type 0} (w n cap : ℕ) (f : X → ℕ) (P : X → Type 0) (xs : List X) (v : Bits)
    → IsPacked w f P xs n → length xs ≤ cap → record { values = values_of w (map f xs) n; capacity = capacity_of w cap } ≡ v
    → IsCapacityOfBlocks w v
is_capacity_of_blocks w n cap f P xs v packed h e =
    grind (arith, capacity_from_view (capacity_of w cap) (values_of w (map f xs) n) v e, length_from_view w n (capacity_of w cap) (map f xs) v e, packed.count)

-- the blocks that a list has cover each length up to their last value
pub capacity_covers : (w n : ℕ) (v : Bits) → IsCapacityOfBlocks w v → n ≤ 2 ^ 64 - 1 → n ≤ blocks_for w (length v.values) * w → n ≤ v.capacity
capacity_covers w n v whole fits h = let more = mul-le-mul_right w whole.enough in rw whole.capacity (omega arith)

-- ---- one value

pub slice_get-values_of_past : (w : ℕ) (ms : List ℕ) (n i : ℕ) → n ≤ i → slice_get (values_of w ms n) i ≡ None
slice_get-values_of_past w ms n i h = slice_get_past (values_of w ms n) i (rw length-values_of h)

pub slice_get-values_of : (w : ℕ) (ms : List ℕ) (n i : ℕ) → i < n → slice_get (values_of w ms n) i ≡ Some (value_at w ms i)
slice_get-values_of w ms n i h = slice_get-get_or (values_of w ms n) i false (rw length-values_of h) ∙ ap Some (get_or-values_of w ms n i false h)

-- ---- all the blocks

pub numbers_below : {X : Type 0} (w : ℕ) (f : X → ℕ) (P : X → Type 0) (xs : List X) → ((x : X) → P x → f x < 2 ^ w) → All P xs → (k : ℕ) → get_or (map f xs) k 0 < 2 ^ w
numbers_below w f P [] below each k = pow_pos w
numbers_below w f P (x ∷ xs) below each zero = below x (each 0 x (omega arith))
numbers_below w f P (x ∷ xs) below each (suc k) = numbers_below w f P xs below (All-tail P x xs each) k

pub all_zero_map : {X : Type 0} (f : X → ℕ) (xs : List X) → All (λ x. f x ≡ 0) xs → (k : ℕ) → get_or (map f xs) k 0 ≡ 0
all_zero_map f xs each k = omega (arith, numbers_below 0 f (λ x. f x ≡ 0) xs (λ x none. omega (arith, none)) each k)

pub all_false_from_zero : {X : Type 0} (w n : ℕ) (f : X → ℕ) (xs : List X) → All (λ x. f x ≡ 0) xs → All (λ b. b ≡ false) (values_of w (map f xs) n)
all_false_from_zero w n f xs zeros k d within =
    grind (arith, get_or-values_of w (map f xs) n k d, length-values_of w (map f xs) n, value_at-is w (map f xs) k, all_zero_map f xs zeros (k / w), is_one-zero)

pub bit_from_false : (m j : ℕ) → is_one m j ≡ false → bit_at m j ≡ 0
bit_from_false m j h = let l = bit_at-lt m j in grind (arith, nat_tests)

pub zero_from_all_false : {X : Type 0} (w n : ℕ) (f : X → ℕ) (P : X → Type 0) (xs : List X) → 0 < w
    → ((x : X) → P x → f x < 2 ^ w) → IsPacked w f P xs n → All (λ b. b ≡ false) (values_of w (map f xs) n)
    → All (λ x. f x ≡ 0) xs
zero_from_all_false w n f P xs pos below packed falses k d within =
    sym (get_or-map f xs k d 0 within)
    ∙ same_from_bits_below w _ 0 (numbers_below w f P xs below packed.each k) (pow_pos w) (λ j inside.
    grind (arith, bit_from_false, value_at-index w (map f xs) k j inside, get_or-values_of w (map f xs) n (k * w + j) false, falses (k * w + j) false, length-values_of, packed.tail.zero_tail (k * w + j), bit_at-zero))

-- ---- the empty list, and whole blocks

pub blocks_for-none : (w : ℕ) → 0 < w → 0 ≡ blocks_for w 0
blocks_for-none w pos = omega (arith, blocks_for-least w 0 0 pos (omega arith))

pub packed_nil : {X : Type 0} (w : ℕ) (f : X → ℕ) (P : X → Type 0) (xs : List X) → 0 < w → xs ≡ [] → IsPacked w f P xs 0
packed_nil w f P xs pos e = grind (arith, blocks_for-none w pos, value_at-past, length-map)

pub values_of-none : (w : ℕ) (ms : List ℕ) → values_of w ms 0 ≡ []
unfolding values_of
values_of-none w ms = refl
