-- A search through the pairs of states of two tables that one word reaches.
use Rattle.std.specs.Prelude.{◌≡◌, ℕ, ◌+◌, ◌*◌, ◌<◌, ◌++◌, IsTrue, List, [], ◌∷◌, length, slice_index_or}
use Rattle.bit_matrix.specs.Matrices.{Matrix, has_at}
use Rattle.automata.specs.{Pairs.{step_of, symbols_of}, Tables.Table, declared.equivalence.Pair.Pair}

-- the first pair, which the empty word reaches
abbrev pub first_pair : Pair
first_pair = record { parent = 0; symbol = 0; left = 0; right = 0 }

-- the pair of that place in the queue
abbrev pub pair_at : List Pair → ℕ → Pair
pair_at queue i = slice_index_or queue i first_pair

-- a row for each state of the one table and a column for each of the other, each table with one state more
pub record HasPlaces (a b : Table) (met : Matrix) : Type 0 where
  pub rows : length met.rows ≡ a.states + 1
  pub columns : met.columns ≡ b.states + 1

-- Going back from a pair to its parent, and on to the first, spells the word from its end.
pub data Spells (queue : List Pair) : ℕ → List ℕ → Type 0 where
  start : Spells queue 0 []
  onward : {i : ℕ} {word : List ℕ} → 0 < i → Spells queue (pair_at queue i).parent word
      → Spells queue i (word ++ (pair_at queue i).symbol ∷ [])

-- a pair of the queue has these states
pub record IsListed (queue : List Pair) (left right : ℕ) : Type 0 where
  pub place : ℕ
  pub inside : place < length queue
  pub left_is : (pair_at queue place).left ≡ left
  pub right_is : (pair_at queue place).right ≡ right

-- a pair's symbol leads to it from its parent, which is before it
pub record IsLinked (a b : Table) (queue : List Pair) (i : ℕ) : Type 0 where
  pub before : (pair_at queue i).parent < i
  pub left_is : (pair_at queue i).left ≡ step_of a (pair_at queue (pair_at queue i).parent).left (pair_at queue i).symbol
  pub right_is : (pair_at queue i).right ≡ step_of b (pair_at queue (pair_at queue i).parent).right (pair_at queue i).symbol

-- A queue of pairs, a matrix of those that it has, and where symbols lead from the pairs of the first of it: `place`
-- counts the symbols that were followed, pair by pair.
pub record Explores (a b : Table) (queue : List Pair) (met : Matrix) (place : ℕ) : Type 0 where
  pub some : 0 < length queue
  pub left_first : (pair_at queue 0).left ≡ 0
  pub right_first : (pair_at queue 0).right ≡ 0
  pub linked : (i : ℕ) → 0 < i → i < length queue → IsLinked a b queue i
  pub listed : (left right : ℕ) → IsTrue (has_at met left right) → IsListed queue left right
  pub closed : (i symbol : ℕ) → i < length queue → symbol < symbols_of a b → i * symbols_of a b + symbol < place
      → IsTrue (has_at met (step_of a (pair_at queue i).left symbol) (step_of b (pair_at queue i).right symbol))
