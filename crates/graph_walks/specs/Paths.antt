-- Graphs, and the paths through them. A graph is a list of rows: row u has the nodes to which an edge leads from u.
use Rattle.std.specs.Prelude.{◌≡◌, ℕ, zero, suc, IsTrue, List, [], ◌∷◌, map, slice_index_or}
use Rattle.bit_set.specs.{Bits.Bits, Sets.{elements, has}}

-- the row of a node; a node past the last row has none, and so no edge
abbrev pub successors : List (List ℕ) → ℕ → List ℕ
successors rows u = slice_index_or rows u []

abbrev pub Edge : List (List ℕ) → ℕ → ℕ → Type 0
Edge rows u v = IsTrue (has (successors rows u) v)

-- From each node a path leads to itself, and a path goes on by an edge.
pub data Path (rows : List (List ℕ)) (u : ℕ) : ℕ → Type 0 where
  here : Path rows u u
  onward : {v w : ℕ} → Path rows u v → Edge rows v w → Path rows u w

-- a path of at least one edge
abbrev pub LeadsTo : List (List ℕ) → ℕ → ℕ → Type 0
LeadsTo rows u w = (v : ℕ) × Path rows u v × Edge rows v w

-- a path of n edges
abbrev pub PathOf : List (List ℕ) → ℕ → ℕ → ℕ → Type 0
PathOf rows zero u w = u ≡ w
PathOf rows (suc n) u w = (v : ℕ) × PathOf rows n u v × Edge rows v w

-- a path as the nodes after its first, with an edge to each from the one before
abbrev pub Trail : List (List ℕ) → ℕ → List ℕ → ℕ → Type 0
Trail rows u [] w = u ≡ w
Trail rows u (v ∷ vs) w = Edge rows u v × Trail rows v vs w

-- the graph whose rows are sets
abbrev pub rows_of : List Bits → List (List ℕ)
rows_of sets = map (λ set. elements set.values) sets
