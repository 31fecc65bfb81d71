-- Matrices of bits, each as the list of its rows: of a row the columns that are in it, in ascending order.
use Rattle.std.specs.Prelude.{◌≡◌, ◌≢◌, ℕ, ◌<◌, Bool, IsTrue, List, [], get_or, length, replicate, slice_set}
use Rattle.bit_set.specs.Sets.{IsAscending, has}

-- what contracts see of a matrix: of each row the columns that are in it, and how many columns there are
pub record Matrix : Type 0 where
  pub rows : List (List ℕ)
  pub columns : ℕ

-- the columns that are in row r; past the last row there are none
abbrev pub row_of : Matrix → ℕ → List ℕ
row_of m r = get_or m.rows r []

-- whether column c is in row r
abbrev pub has_at : Matrix → ℕ → ℕ → Bool
has_at m r c = has (row_of m r) c

-- the matrix whose row r has these columns in place of what it has
abbrev pub with_row : Matrix → ℕ → List ℕ → Matrix
with_row m r row = record { rows = slice_set m.rows r row; columns = m.columns }

-- the matrix of so many rows that all have these columns
abbrev pub matrix_of : ℕ → ℕ → List ℕ → Matrix
matrix_of rows columns row = record { rows = replicate rows row; columns = columns }

-- What holds of every matrix: each row is a set of columns.
pub record IsMatrix (m : Matrix) : Type 0 where
  pub ascends : (r : ℕ) → IsAscending (row_of m r)
  pub below : (r c : ℕ) → IsTrue (has_at m r c) → c < m.columns

-- `new` has as many rows and columns as `old`, in the row r what f says of each column, and in the other rows what `old`
-- has
pub record ChangesRow (old new : Matrix) (r : ℕ) (f : ℕ → Bool) : Type 0 where
  pub row : (c : ℕ) → has_at new r c ≡ f c
  pub others : (q : ℕ) → q ≢ r → row_of new q ≡ row_of old q
  pub rows : length new.rows ≡ length old.rows
  pub columns : new.columns ≡ old.columns

-- `new` has as many rows and columns as `old`
pub record KeepsShape (old new : Matrix) : Type 0 where
  pub rows : length new.rows ≡ length old.rows
  pub columns : new.columns ≡ old.columns

-- t has as many rows as m has columns, and the other way round
pub record HasTurnedShape (m t : Matrix) : Type 0 where
  pub rows : length t.rows ≡ m.columns
  pub columns : t.columns ≡ length m.rows

-- Column r is in row c of t just where column c is in row r of m.
pub record IsTransposed (m t : Matrix) : Type 0 where
  pub bits : (r c : ℕ) → has_at t c r ≡ has_at m r c
  pub rows : length t.rows ≡ m.columns
  pub columns : t.columns ≡ length m.rows
