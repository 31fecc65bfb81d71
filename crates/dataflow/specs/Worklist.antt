-- What the parts of the solver do: the blocks that wait, and the sets on their way.
use Rattle.std.specs.Prelude.{◌≡◌, ◌≢◌, ℕ, ◌+◌, ◌-◌, ◌<◌, ◌^◌, ◌↔◌, ◌⊎◌, Bool, false, if◌then◌else◌, IsTrue, List, [], ◌∷◌, length, map, nat_lt, slice_index_or}
use Rattle.std.specs.List.{list_any}
use Rattle.smallvec.specs.SmallVec.{SmallVec}
use Rattle.bit_set.specs.Sets.{has}
use Rattle.dataflow.specs.Flow.{Enters, Flow, Reaches, block_at, set_at}

-- the place of a block among those that wait: its number, or counted from the last
abbrev pub place_of : ℕ → Bool → ℕ → ℕ
place_of count from_last block = if from_last then count - 1 - block else block

-- how many of the blocks, numbered from `number` on, have a source of a greater number
abbrev pub flowing_back : ℕ → List Flow → ℕ
flowing_back number [] = 0
flowing_back number (block ∷ blocks) = (if list_any (λ source. nat_lt number source) block.sources then 1 else 0)
    + flowing_back (number + 1) blocks

-- the rows as lists
abbrev pub rows_of : List (SmallVec ℕ) → List (List ℕ)
rows_of rows = map (λ row. row.items) rows

-- the row of a block, and none past the last
abbrev pub row_at : List (List ℕ) → ℕ → List ℕ
row_at rows s = slice_index_or rows s []

-- each row has all blocks that its block flows into, and no number that is none of a block
pub record AreDependents (blocks : List Flow) (rows : List (List ℕ)) : Type 0 where
  pub long : length rows ≡ length blocks
  pub all : (b s : ℕ) → s < length blocks → IsTrue (has (block_at blocks b).sources s) → IsTrue (has (row_at rows s) b)
  pub inside : (b s : ℕ) → IsTrue (has (row_at rows s) b) → b < length blocks

-- One block went into the rows of its sources.
pub record AddsDependent (sources : List ℕ) (b : ℕ) (old new : List (List ℕ)) : Type 0 where
  pub long : length new ≡ length old
  pub kept : (c s : ℕ) → IsTrue (has (row_at old s) c) → IsTrue (has (row_at new s) c)
  pub adds : (s : ℕ) → s < length old → IsTrue (has sources s) → IsTrue (has (row_at new s) b)
  pub only : (c s : ℕ) → IsTrue (has (row_at new s) c) → IsTrue (has (row_at old s) c) ⊎ (c ≡ b)

-- `new` has what is in `old`, and what is in the set of a source and is not killed
abbrev pub Transfers : List ℕ → List ℕ → List (List ℕ) → List ℕ → List ℕ → Type 0
Transfers sources killed sets old new = (v : ℕ) → IsTrue (has new v) ↔ (IsTrue (has old v)
    ⊎ (((s : ℕ) × IsTrue (has sources s) × IsTrue (has (set_at sets s) v)) × (has killed v ≡ false)))

-- The set of block b took in what enters the block and is not killed.
pub record TakesIn (block : Flow) (b : ℕ) (old new : List (List ℕ)) : Type 0 where
  pub long : length new ≡ length old
  pub others : (c : ℕ) → c ≢ b → set_at new c ≡ set_at old c
  pub kept : (v : ℕ) → IsTrue (has (set_at old b) v) → IsTrue (has (set_at new b) v)
  pub takes : (v : ℕ) → Enters block old v → has block.killed v ≡ false → IsTrue (has (set_at new b) v)
  pub only : (v : ℕ) → IsTrue (has (set_at new b) v)
      → IsTrue (has (set_at old b) v) ⊎ (Enters block old v × (has block.killed v ≡ false))

-- Sets on their way to the solution: all that they have reaches its block, and they have what is generated.
pub record AreOnTheWay (blocks : List Flow) (sets : List (List ℕ)) : Type 0 where
  pub long : length sets ≡ length blocks
  pub few : (b : ℕ) → length (set_at sets b) < 2 ^ 64
  pub sound : (b v : ℕ) → IsTrue (has (set_at sets b) v) → Reaches blocks v b
  pub generated : (b v : ℕ) → IsTrue (has (block_at blocks b).generated v) → IsTrue (has (set_at sets b) v)

-- The dependents of a block wait again, beside those that did, and no others.
pub record PutsBack (dependents : List ℕ) (place : ℕ → ℕ) (old new : List ℕ) : Type 0 where
  pub kept : (p : ℕ) → IsTrue (has old p) → IsTrue (has new p)
  pub adds : (b : ℕ) → IsTrue (has dependents b) → IsTrue (has new (place b))
  pub only : (p : ℕ) → IsTrue (has new p) → IsTrue (has old p) ⊎ ((b : ℕ) × IsTrue (has dependents b) × (p ≡ place b))
