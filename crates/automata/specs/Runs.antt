-- Automata, and the words that they accept. States and symbols are numbers, and a word is a list of symbols.
use Rattle.std.specs.{Global.Vec, Prelude.{ℕ, ◌↔◌, IsTrue, List, [], ◌∷◌, map, slice_index_or}}
use Rattle.bit_set.specs.{Bits.Bits, Sets.{elements, has}}

-- What contracts see of an automaton: for each symbol a row, which has for each state the states to which that symbol
-- leads from it; the states in which a run may start, and those in which it may end. And `longest`, the length of the
-- longest set of the first two, on which no word depends: only which memory calls take.
pub record Automaton : Type 0 where
  pub moves : List (List (List ℕ))
  pub starts : List ℕ
  pub accepting : List ℕ
  pub longest : ℕ

-- the row of a symbol; a symbol past the last row has none
abbrev pub row_of : List (List (List ℕ)) → ℕ → List (List ℕ)
row_of moves symbol = slice_index_or moves symbol []

-- the states to which a row leads from a state; from a state past its end it leads nowhere
abbrev pub successors : List (List ℕ) → ℕ → List ℕ
successors row state = slice_index_or row state []

-- the symbol leads from one state to the other
abbrev pub Leads : List (List (List ℕ)) → ℕ → ℕ → ℕ → Type 0
Leads moves u symbol v = IsTrue (has (successors (row_of moves symbol) u) v)

-- A run from each state to itself spells nothing; where a symbol leads on to a run, the two are a run that spells the
-- symbol and then what that run spells.
pub data Run (moves : List (List (List ℕ))) : ℕ → List ℕ → ℕ → Type 0 where
  here : {u : ℕ} → Run moves u [] u
  onward : {u v w symbol : ℕ} {word : List ℕ} → Leads moves u symbol v → Run moves v word w
      → Run moves u (symbol ∷ word) w

-- a run from a start to the state spells the word
abbrev pub IsReachedBy : Automaton → List ℕ → ℕ → Type 0
IsReachedBy nfa word v = (u : ℕ) × IsTrue (has nfa.starts u) × Run nfa.moves u word v

-- a run from a start to an accepting state spells the word
abbrev pub Accepts : Automaton → List ℕ → Type 0
Accepts nfa word = (v : ℕ) × IsReachedBy nfa word v × IsTrue (has nfa.accepting v)

-- t has each state to which the row leads from a state in s, and no other
abbrev pub IsImage : List (List ℕ) → List ℕ → List ℕ → Type 0
IsImage row s t = (v : ℕ) → IsTrue (has t v) ↔ ((u : ℕ) × IsTrue (has s u) × IsTrue (has (successors row u) v))

-- t has each state in which a run from a state in s that spells the word ends, and no other
abbrev pub IsEnd : List (List (List ℕ)) → List ℕ → List ℕ → List ℕ → Type 0
IsEnd moves s word t = (v : ℕ) → IsTrue (has t v) ↔ ((u : ℕ) × IsTrue (has s u) × Run moves u word v)

-- the set has each state that the word reaches, and no other
abbrev pub IsReach : Automaton → List ℕ → List ℕ → Type 0
IsReach nfa word s = (v : ℕ) → IsTrue (has s v) ↔ IsReachedBy nfa word v

-- rows of sets, as lists
abbrev pub row_of_sets : List Bits → List (List ℕ)
row_of_sets sets = map (λ set. elements set.values) sets

abbrev pub rows_of_sets : List (Vec Bits) → List (List (List ℕ))
rows_of_sets rows = map (λ row. row_of_sets row.items) rows
