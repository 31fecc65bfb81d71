-- Values that flow from block to block, and the sets of those that reach each.
use Rattle.std.specs.Prelude.{◌≡◌, ℕ, ◌↔◌, ◌⊎◌, false, IsTrue, List, [], map, slice_index_or}
use Rattle.bit_set.specs.{Bits.Bits, Sets.{elements, has}}

-- What an analysis knows of a block: from which blocks values flow into it, which values it generates, and which of
-- those that flow in it kills.
pub record Flow : Type 0 where
  pub sources : List ℕ
  pub generated : List ℕ
  pub killed : List ℕ

-- a block; past the last one nothing flows, and nothing is generated
abbrev pub block_at : List Flow → ℕ → Flow
block_at blocks b = slice_index_or blocks b (record { sources = []; generated = []; killed = [] })

-- the set of a block, and the empty one past the last
abbrev pub set_at : List (List ℕ) → ℕ → List ℕ
set_at sets b = slice_index_or sets b []

-- The value reaches a block that generates it, and it goes on from a block to each that it flows into and that does not
-- kill it.
pub data Reaches (blocks : List Flow) (v : ℕ) : ℕ → Type 0 where
  made : {b : ℕ} → IsTrue (has (block_at blocks b).generated v) → Reaches blocks v b
  onward : {b s : ℕ} → IsTrue (has (block_at blocks b).sources s) → has (block_at blocks b).killed v ≡ false
      → Reaches blocks v s → Reaches blocks v b

-- some block from which values flow into this one has the value
abbrev pub Enters : Flow → List (List ℕ) → ℕ → Type 0
Enters block sets v = (s : ℕ) × IsTrue (has block.sources s) × IsTrue (has (set_at sets s) v)

-- The right side of a block's equation: what it generates, and what enters it and is not killed.
abbrev pub IsDue : Flow → List (List ℕ) → ℕ → Type 0
IsDue block sets v = IsTrue (has block.generated v) ⊎ (Enters block sets v × (has block.killed v ≡ false))

-- each block's set is the right side of its equation
abbrev pub IsSolution : List Flow → List (List ℕ) → Type 0
IsSolution blocks sets = (b v : ℕ) → IsTrue (has (set_at sets b) v) ↔ IsDue (block_at blocks b) sets v

-- each block's set has all of the right side of its equation, and may have more
abbrev pub HasAllDue : List Flow → List (List ℕ) → Type 0
HasAllDue blocks sets = (b v : ℕ) → IsDue (block_at blocks b) sets v → IsTrue (has (set_at sets b) v)

-- each block's set in the first list is within its set in the second
abbrev pub AreWithin : List (List ℕ) → List (List ℕ) → Type 0
AreWithin sets others = (b v : ℕ) → IsTrue (has (set_at sets b) v) → IsTrue (has (set_at others b) v)

-- each block's set has the values that reach it, and no others
abbrev pub AreReached : List Flow → List (List ℕ) → Type 0
AreReached blocks sets = (b v : ℕ) → IsTrue (has (set_at sets b) v) ↔ Reaches blocks v b

-- The sets are a solution, and the least: they are within any that have all of each right side.
pub record IsLeastSolution (blocks : List Flow) (sets : List (List ℕ)) : Type 0 where
  pub solves : IsSolution blocks sets
  pub least : (others : List (List ℕ)) → HasAllDue blocks others → AreWithin sets others

-- the sets as lists of their elements
abbrev pub lists_of : List Bits → List (List ℕ)
lists_of sets = map (λ set. elements set.values) sets
