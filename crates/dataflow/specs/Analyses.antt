-- What the analyses of a compiler find, each in its own words.
use Rattle.std.specs.Prelude.{◌≡◌, ℕ, ◌↔◌, ◌⊎◌, false, IsTrue, List, [], map, slice_index_or}
use Rattle.bit_set.specs.Sets.{elements, has}
use Rattle.dataflow.specs.{Flow.{AreWithin, set_at}, declared.variables.VariableBlock.VariableBlock}
use Rattle.dataflow.specs.declared.definitions.DefinitionBlock.{DefinitionBlock}

-- ---- live variables

-- the successors of block b, and none where b is no block
abbrev pub successors_of : {B : Type 0} → List (VariableBlock B) → ℕ → List ℕ
successors_of blocks b = slice_index_or (map (λ block. block.successors.items) blocks) b []

-- the variables that block b uses before it assigns them
abbrev pub used_in : {B : Type 0} → List (VariableBlock B) → ℕ → List ℕ
used_in blocks b = slice_index_or (map (λ block. elements block.used.values) blocks) b []

-- the variables that block b assigns
abbrev pub assigned_in : {B : Type 0} → List (VariableBlock B) → ℕ → List ℕ
assigned_in blocks b = slice_index_or (map (λ block. elements block.assigned.values) blocks) b []

-- A path leads from the start of a block to a use of the variable, with no assignment of it on the way.
pub data IsLive {B : Type 0} (blocks : List (VariableBlock B)) (v : ℕ) : ℕ → Type 0 where
  used_here : {b : ℕ} → IsTrue (has (used_in blocks b) v) → IsLive blocks v b
  used_later : {b s : ℕ} → IsTrue (has (successors_of blocks b) s) → has (assigned_in blocks b) v ≡ false
      → IsLive blocks v s → IsLive blocks v b

-- v is in used[b] ∪ (⋃ live_in[s] over the successors s of b − assigned[b])
abbrev pub IsLiveBySuccessors : {B : Type 0} → List (VariableBlock B) → List (List ℕ) → ℕ → ℕ → Type 0
IsLiveBySuccessors blocks live_in b v = IsTrue (has (used_in blocks b) v)
    ⊎ (((s : ℕ) × IsTrue (has (successors_of blocks b) s) × IsTrue (has (set_at live_in s) v))
    × (has (assigned_in blocks b) v ≡ false))

-- The sets of the variables that are live where each block begins. They are a solution of the equations
-- live_in[b] = used[b] ∪ (⋃ live_in[s] over the successors s of b − assigned[b]), and the least: they are within any sets
-- that have all of each right side.
pub record AreLive {B : Type 0} (blocks : List (VariableBlock B)) (live_in : List (List ℕ)) : Type 0 where
  pub equation : (b v : ℕ) → IsTrue (has (set_at live_in b) v) ↔ IsLiveBySuccessors blocks live_in b v
  pub least : (others : List (List ℕ))
      → ((b v : ℕ) → IsLiveBySuccessors blocks others b v → IsTrue (has (set_at others b) v)) → AreWithin live_in others

-- ---- reaching definitions

-- the predecessors of block b, and none where b is no block
abbrev pub predecessors_of : {B : Type 0} → List (DefinitionBlock B) → ℕ → List ℕ
predecessors_of blocks b = slice_index_or (map (λ block. block.predecessors.items) blocks) b []

-- the definitions in block b that reach its end
abbrev pub defined_in : {B : Type 0} → List (DefinitionBlock B) → ℕ → List ℕ
defined_in blocks b = slice_index_or (map (λ block. elements block.defined.values) blocks) b []

-- the definitions that block b overwrites
abbrev pub overwritten_in : {B : Type 0} → List (DefinitionBlock B) → ℕ → List ℕ
overwritten_in blocks b = slice_index_or (map (λ block. elements block.overwritten.values) blocks) b []

-- A path leads from the definition to the end of a block, with no block on the way that overwrites it.
pub data ReachesEnd {B : Type 0} (blocks : List (DefinitionBlock B)) (d : ℕ) : ℕ → Type 0 where
  defined_here : {b : ℕ} → IsTrue (has (defined_in blocks b) d) → ReachesEnd blocks d b
  defined_before : {b p : ℕ} → IsTrue (has (predecessors_of blocks b) p) → has (overwritten_in blocks b) d ≡ false
      → ReachesEnd blocks d p → ReachesEnd blocks d b

-- d is in defined[b] ∪ (⋃ out[p] over the predecessors p of b − overwritten[b])
abbrev pub ReachesByPredecessors : {B : Type 0} → List (DefinitionBlock B) → List (List ℕ) → ℕ → ℕ → Type 0
ReachesByPredecessors blocks out b d = IsTrue (has (defined_in blocks b) d)
    ⊎ (((p : ℕ) × IsTrue (has (predecessors_of blocks b) p) × IsTrue (has (set_at out p) d))
    × (has (overwritten_in blocks b) d ≡ false))

-- The sets of the definitions that reach the end of each block. They are a solution of the equations
-- out[b] = defined[b] ∪ (⋃ out[p] over the predecessors p of b − overwritten[b]), and the least: they are within any sets
-- that have all of each right side.
pub record AreReachingDefinitions {B : Type 0} (blocks : List (DefinitionBlock B)) (out : List (List ℕ)) : Type 0 where
  pub equation : (b d : ℕ) → IsTrue (has (set_at out b) d) ↔ ReachesByPredecessors blocks out b d
  pub least : (others : List (List ℕ))
      → ((b d : ℕ) → ReachesByPredecessors blocks others b d → IsTrue (has (set_at others b) d)) → AreWithin out others
