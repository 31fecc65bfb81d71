-- How a vector of blocks holds a list of truth values. Of the public clauses only those of `packed` cite this.
use Rattle.std.specs.Prelude.{◌≡◌, ◌≢◌, ℕ, ◌^◌, ◌/◌, ◌%◌, ◌<◌, ◌≤◌, Bool, false, not, ◌==◌, List, map, length, get_or, All}
use Rattle.std.specs.Prelude.{vec_len, vec_capacity}
use Rattle.std.specs.{Global.Vec, List.{range_with_len, sum_by}, Int.RustNames.count_ones}
use Rattle.bit_blocks.specs.{Bits.blocks_for, Digits.is_one}

-- value i is digit i % w of block i / w, and false where there is no such block
unfoldable pub value_at : ℕ → List ℕ → ℕ → Bool
value_at w ms i = is_one (get_or ms (i / w) 0) (i % w)

-- the first n of these values
unfoldable pub values_of : ℕ → List ℕ → ℕ → List Bool
values_of w ms n = map (value_at w ms) (range_with_len 0 n)

-- every value from n on is false
pub record IsZeroFrom (w : ℕ) (ms : List ℕ) (n : ℕ) : Type 0 where
  pub zero_tail : (i : ℕ) → n ≤ i → value_at w ms i ≡ false

-- The blocks xs hold a list of n values: each is a block value, there are as many as it takes, what no value uses is 0,
-- and n is a `usize`.
pub record IsPacked {X : Type 0} (w : ℕ) (number : X → ℕ) (is_block : X → Type 0) (xs : List X) (n : ℕ) : Type 0 where
  pub each : All is_block xs
  pub count : length xs ≡ blocks_for w n
  pub tail : IsZeroFrom w (map number xs) n
  pub fits : n < 2 ^ 64

-- Some blocks of a vector were written: each is a block value, and there are as many, with the same capacity.
pub record WritesInPlace {X : Type 0} (is_block : X → Type 0) (old new : Vec X) : Type 0 where
  pub each : All is_block new.items
  pub len : vec_len new ≡ vec_len old
  pub capacity : vec_capacity new ≡ vec_capacity old

-- The value at i of the blocks ms became b, and no other changed.
pub record WritesValue (w : ℕ) (ms ns : List ℕ) (i : ℕ) (b : Bool) : Type 0 where
  pub same : value_at w ns i ≡ b
  pub others : (j : ℕ) → j ≢ i → value_at w ns j ≡ value_at w ms j

-- The first `count` blocks became n, and no other changed.
pub record FillsFirst (ms ns : List ℕ) (count n : ℕ) : Type 0 where
  pub filled : (k : ℕ) → k < count → get_or ns k 0 ≡ n
  pub others : (k : ℕ) → count ≤ k → get_or ns k 0 ≡ get_or ms k 0

-- whether block k is not 0
abbrev pub is_used : List ℕ → ℕ → Bool
is_used ms k = not (get_or ms k 0 == 0)

-- how many binary digits of blocks are 1
abbrev pub ones_in : {X : Type 0} → (X → ℕ) → List X → ℕ
ones_in number xs = sum_by (λ x. count_ones (number x)) xs
