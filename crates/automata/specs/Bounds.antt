-- How long the sets of an automaton are.
use Rattle.std.specs.{Global.Vec, Prelude.{ℕ, ◌≤◌, List, [], length, map, slice_index_or}}
use Rattle.bit_set.specs.Bits.{Bits}

-- a set of a row, and an empty set of no length past its end
abbrev pub set_at : List Bits → ℕ → Bits
set_at row u = slice_index_or row u (record { values = []; capacity = 0 })

-- no set of the row is longer than n
abbrev pub IsRowWithin : ℕ → List Bits → Type 0
IsRowWithin n row = (u : ℕ) → length (set_at row u).values ≤ n

-- no set of any row is longer than n
abbrev pub AreWithin : ℕ → List (Vec Bits) → Type 0
AreWithin n rows = (symbol : ℕ) → IsRowWithin n (slice_index_or (map (λ row. row.items) rows) symbol [])

-- the length of the longest set of the rows and the starts
pub record IsLongest (longest : ℕ) (rows : List (Vec Bits)) (starts : Bits) : Type 0 where
  pub all : AreWithin longest rows
  pub starts_too : length starts.values ≤ longest
  pub least : (n : ℕ) → AreWithin n rows → length starts.values ≤ n → longest ≤ n
