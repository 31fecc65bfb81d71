-- Available expressions: those that each path computed, and that are not killed since.
use Rattle.std.specs.Prelude.{◌≡◌, ◌≢◌, ℕ, ◌<◌, ◌↔◌, ◌⊎◌, Bool, not, ◌&&◌, ◌||◌, ◌==◌, false, if◌then◌else◌, IsTrue, List, [], length, map, nat_le, nat_lt, slice_index_or}
use Rattle.std.specs.List.{list_any}
use Rattle.bit_set.specs.Sets.{difference, elements, has}
use Rattle.dataflow.specs.{Flow.{AreWithin, Flow, set_at}, declared.expressions.ExpressionBlock.ExpressionBlock}
use Rattle.dataflow.specs.declared.expressions.MissingBlock.{MissingBlock}

-- the predecessors of block b, and none where b is no block
abbrev pub predecessors_of : {B : Type 0} → List (ExpressionBlock B) → ℕ → List ℕ
predecessors_of blocks b = slice_index_or (map (λ block. block.predecessors.items) blocks) b []

-- the expressions that block b computes, so that they are available at its end
abbrev pub computed_in : {B : Type 0} → List (ExpressionBlock B) → ℕ → List ℕ
computed_in blocks b = slice_index_or (map (λ block. elements block.computed.values) blocks) b []

-- the expressions of which block b assigns an operand
abbrev pub killed_in : {B : Type 0} → List (ExpressionBlock B) → ℕ → List ℕ
killed_in blocks b = slice_index_or (map (λ block. elements block.killed.values) blocks) b []

-- A path leads to the end of a block, from an entry or from a block that kills the expression, and no block on it
-- computes the expression. An entry is a block with no predecessor, or a number that is no block.
pub data IsMissing {B : Type 0} (blocks : List (ExpressionBlock B)) (e : ℕ) : ℕ → Type 0 where
  at_entry : {b : ℕ} → predecessors_of blocks b ≡ [] → has (computed_in blocks b) e ≡ false → IsMissing blocks e b
  after_kill : {b : ℕ} → IsTrue (has (killed_in blocks b) e) → has (computed_in blocks b) e ≡ false
      → IsMissing blocks e b
  after_path : {b p : ℕ} → IsTrue (has (predecessors_of blocks b) p) → has (computed_in blocks b) e ≡ false
      → IsMissing blocks e p → IsMissing blocks e b

-- e is in computed[b] ∪ (⋂ out[p] over the predecessors p of b − killed[b]), where b has a predecessor, and else in
-- computed[b]
abbrev pub IsAvailableByPredecessors : {B : Type 0} → List (ExpressionBlock B) → List (List ℕ) → ℕ → ℕ → Type 0
IsAvailableByPredecessors blocks out b e = IsTrue (has (computed_in blocks b) e)
    ⊎ ((predecessors_of blocks b ≢ [])
    × ((p : ℕ) → IsTrue (has (predecessors_of blocks b) p) → IsTrue (has (set_at out p) e))
    × (has (killed_in blocks b) e ≡ false))

-- The sets of the expressions below `count` that are available at the end of each block. They are a solution of the
-- equations out[b] = computed[b] ∪ (⋂ out[p] over the predecessors p of b − killed[b]), and the greatest: any sets of
-- expressions below `count` that have nothing but what is in their right sides are within them.
pub record AreAvailable {B : Type 0} (blocks : List (ExpressionBlock B)) (count : ℕ) (out : List (List ℕ)) : Type 0 where
  pub below : (b e : ℕ) → IsTrue (has (set_at out b) e) → e < count
  pub equation : (b e : ℕ) → e < count → IsTrue (has (set_at out b) e) ↔ IsAvailableByPredecessors blocks out b e
  pub greatest : (others : List (List ℕ))
      → ((b e : ℕ) → IsTrue (has (set_at others b) e) → (e < count) × IsAvailableByPredecessors blocks others b e)
      → AreWithin others out

-- ---- what is missing, as a data-flow problem

-- whether no expression is available where a block begins: it has no predecessor, or one that is no block
abbrev pub starts_with_none : List ℕ → ℕ → Bool
starts_with_none predecessors blocks = length predecessors == 0 || list_any (λ p. nat_le blocks p) predecessors

-- What is missing flows on, a block that computes it kills it, and one that kills it generates it.
abbrev pub missing_flow : {B : Type 0} → ℕ → List ℕ → ExpressionBlock B → Flow
missing_flow blocks all block = record {
  sources = block.predecessors.items;
  generated = difference (if starts_with_none block.predecessors.items blocks then all else elements block.killed.values)
      (elements block.computed.values);
  killed = elements block.computed.values;
}

-- `new` has the numbers below `count` that `old` has not, and no others
abbrev pub IsComplement : ℕ → List ℕ → List ℕ → Type 0
IsComplement count old new = (e : ℕ) → has new e ≡ (nat_lt e count && not (has old e))

-- each set became the numbers below `count` that it had not
pub record AreComplements (count : ℕ) (old new : List (List ℕ)) : Type 0 where
  pub long : length new ≡ length old
  pub each : (b : ℕ) → b < length old → IsComplement count (set_at old b) (set_at new b)

-- what a block makes missing, in the problem of what is missing
abbrev pub flow_of : {B : Type 0} → MissingBlock B → Flow
flow_of missing = record {
  sources = missing.block.now.predecessors.items;
  generated = elements missing.missing.values;
  killed = elements missing.block.now.computed.values;
}
