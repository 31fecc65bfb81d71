-- What becomes of a graph that is closed.
use Rattle.std.specs.Prelude.{◌≡◌, ℕ, ◌<◌, ◌≤◌, ◌↔◌, ◌⊎◌, max, IsTrue, false, List, [], length, slice_index_or}
use Rattle.bit_set.specs.{Bits.Bits, Sets.{elements, has}}
use Rattle.bit_matrix.specs.Matrices.{Matrix}
use Rattle.graph_walks.specs.Paths.{Edge, LeadsTo, Path}

-- The new graph has an edge wherever a path of at least one edge leads in the old one.
abbrev pub IsClosureOf : List (List ℕ) → List (List ℕ) → Type 0
IsClosureOf old new = (u v : ℕ) → Edge new u v ↔ LeadsTo old u v

-- The new matrix has an edge wherever a path leads in the old one, also one of no edges, to a node that is a column.
abbrev pub IsReflexiveClosureOf : Matrix → Matrix → Type 0
IsReflexiveClosureOf old new = (u v : ℕ)
    → Edge new.rows u v ↔ ((u < length old.rows) × (v < old.columns) × Path old.rows u v)

-- an edge leads wherever two lead
abbrev pub IsClosed : List (List ℕ) → Type 0
IsClosed rows = (u v w : ℕ) → Edge rows u v → Edge rows v w → Edge rows u w

-- The graph on its way to the closure of the old one: each row has all that it had, and nothing that the closure does
-- not have, so that paths lead wherever they led.
pub record IsOnTheWay (old new : List (List ℕ)) : Type 0 where
  pub kept : (u v : ℕ) → Edge old u v → Edge new u v
  pub within : (u v : ℕ) → Edge new u v → LeadsTo old u v
  pub same_paths : (u v : ℕ) → LeadsTo new u v ↔ LeadsTo old u v

-- The set has each node to which an edge leads from u, or from one of its nodes below the bound.
pub record Follows (graph : List (List ℕ)) (u bound : ℕ) (nodes : List ℕ) : Type 0 where
  pub start : (v : ℕ) → Edge graph u v → IsTrue (has nodes v)
  pub onward : (m v : ℕ) → m < bound → IsTrue (has nodes m) → Edge graph m v → IsTrue (has nodes v)

-- none of the nodes from `from` on and below `to` is in the set
abbrev pub HasNoneIn : List ℕ → ℕ → ℕ → Type 0
HasNoneIn nodes from to = (m : ℕ) → from ≤ m → m < to → has nodes m ≡ false

-- a row, and an empty set of no length past the last one
abbrev pub row : List Bits → ℕ → Bits
row rows u = slice_index_or rows u (record { values = []; capacity = 0 })

-- A row became what leads on by one node: where it has that node it takes in what is in `via`.
pub record Joins (node : ℕ) (via old new : Bits) : Type 0 where
  pub keeps : (v : ℕ) → IsTrue (has (elements old.values) v) → IsTrue (has (elements new.values) v)
  pub only : (v : ℕ) → IsTrue (has (elements new.values) v)
      → IsTrue (has (elements old.values) v)
      ⊎ (IsTrue (has (elements old.values) node) × IsTrue (has (elements via.values) v))
  pub adds : (v : ℕ) → IsTrue (has (elements old.values) node) → IsTrue (has (elements via.values) v)
      → IsTrue (has (elements new.values) v)
  pub long : length new.values ≤ max (length old.values) (length via.values)
  pub capacity : length via.values ≤ old.capacity → new.capacity ≡ old.capacity
