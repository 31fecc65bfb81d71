-- How a vector of blocks holds a matrix. No public clause cites this.
use Rattle.std.specs.{Prelude.{◌≡◌, ℕ, ◌+◌, ◌*◌, ◌^◌, ◌<◌, ◌≤◌, All, Bool, false, List, filter, length, map}, List.range_with_len}
use Rattle.bit_blocks.specs.{Bits.blocks_for, Storage.value_at}
use Rattle.bit_set.specs.Ranges.{span}
use Rattle.bit_matrix.specs.Matrices.{Matrix}

-- bit c of row r, where each row has so many blocks of w
abbrev pub bit_of : ℕ → ℕ → List ℕ → ℕ → ℕ → Bool
bit_of w stride ms r c = value_at w ms (r * (stride * w) + c)

-- the columns below `columns` that are in row r
unfoldable pub row_in : ℕ → ℕ → ℕ → List ℕ → ℕ → List ℕ
row_in w stride columns ms r = filter (bit_of w stride ms r) (span 0 columns)

-- those of each row
unfoldable pub rows_in : ℕ → ℕ → ℕ → ℕ → List ℕ → List (List ℕ)
rows_in w stride rows columns ms = map (row_in w stride columns ms) (range_with_len 0 rows)

-- what contracts see of it
abbrev pub matrix_in : ℕ → ℕ → ℕ → ℕ → List ℕ → Matrix
matrix_in w stride rows columns ms = record { rows = rows_in w stride rows columns ms; columns = columns }

-- what no column uses is 0
pub record IsCleanPast (w stride columns : ℕ) (ms : List ℕ) : Type 0 where
  pub tail : (r c : ℕ) → columns ≤ c → c < stride * w → bit_of w stride ms r c ≡ false

-- The blocks xs hold a matrix of so many rows and columns: each is a block value, there are as many as it takes, of
-- which each row has as many, what no column uses is 0, and the bits are counted by a `usize`.
pub record IsTable {X : Type 0} (w : ℕ) (number : X → ℕ) (is_block : X → Type 0) (xs : List X)
    (rows columns blocks : ℕ) : Type 0 where
  pub each : All is_block xs
  pub in_row : blocks ≡ blocks_for w columns
  pub count : length xs ≡ rows * blocks
  pub clean : IsCleanPast w blocks columns (map number xs)
  pub fits : rows * (blocks * w) < 2 ^ 64
