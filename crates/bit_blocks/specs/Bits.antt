-- A list of truth values, and the blocks that store it.
use Rattle.std.specs.Prelude.{◌≡◌, ◌≢◌, ℕ, ◌||◌, nat_lt, nat_le, if◌then◌else◌, ◌<◌, ◌≤◌, ◌^◌, ◌+◌, ◌-◌, ◌*◌, ◌/◌, ◌%◌, min}
use Rattle.std.specs.Prelude.{Bool, true, false, List, [], ◌∷◌, map, length, take, drop, ◌==◌, Some, slice_get}
use Rattle.std.specs.{Int.bit_at, List.{range_with_len, flat_map}}

-- What contracts see of a bit vector: its truth values, and for how many it has capacity.
pub record Bits : Type 0 where
  pub values : List Bool
  pub capacity : ℕ

-- What holds of every bit vector: the list is no longer than the capacity, and the capacity is a `usize`.
pub record IsWithinCapacity (v : Bits) : Type 0 where
  pub holds_values : length v.values ≤ v.capacity
  pub fits : v.capacity ≤ 2 ^ 64 - 1

-- how many blocks of w values a list of n has: n / w, rounded up
abbrev pub blocks_for : ℕ → ℕ → ℕ
blocks_for w n = n / w + min 1 (n % w)

-- how many values there is capacity for in that many blocks of w: no more than `usize::MAX`
abbrev pub capacity_of : ℕ → ℕ → ℕ
capacity_of w blocks = min (blocks * w) (2 ^ 64 - 1)

-- What else holds of it: the capacity is that of some blocks, and they are enough for the list.
pub record IsCapacityOfBlocks (w : ℕ) (v : Bits) : Type 0 where
  pub blocks : ℕ
  pub capacity : v.capacity ≡ capacity_of w blocks
  pub enough : blocks_for w (length v.values) ≤ blocks

-- index i is the first at which a list is true
pub record IsFirstTrue (values : List Bool) (i : ℕ) : Type 0 where
  pub is_true : slice_get values i ≡ Some true
  pub before : (j : ℕ) → j < i → slice_get values j ≢ Some true

-- one past the last index at which a list is true, 0 where there is none
abbrev pub true_end : List Bool → ℕ
true_end [] = 0
true_end (b ∷ bs) = if b || nat_lt 0 (true_end bs) then true_end bs + 1 else 0

-- the length of the blocks up to there, or that of the list where they are longer than a `usize` says
abbrev pub whole_blocks : ℕ → List Bool → ℕ
whole_blocks w values =
    let whole = blocks_for w (true_end values) * w in if nat_le whole (2 ^ 64 - 1) then whole else length values

-- the binary digit of a truth value
abbrev pub digit_of : Bool → ℕ
digit_of true = 1
digit_of false = 0

-- the number whose lowest binary digit is the first value
unfoldable pub number_of : List Bool → ℕ
number_of [] = 0
number_of (b ∷ bs) = number_of bs * 2 + digit_of b

-- block k has the w values from k * w on
unfoldable pub blocks_of : ℕ → List Bool → List ℕ
blocks_of w values =
    map (λ k. number_of (take w (drop (k * w) values))) (range_with_len 0 (blocks_for w (length values)))

-- the eight values of a byte, its highest binary digit first
unfoldable pub values_of_byte : ℕ → List Bool
values_of_byte byte = map (λ j. bit_at byte (7 - j) == 1) (range_with_len 0 8)

-- those of each byte in turn
abbrev pub values_of_bytes : List ℕ → List Bool
values_of_bytes bytes = flat_map values_of_byte bytes
