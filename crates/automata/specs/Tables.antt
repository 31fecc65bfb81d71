-- Deterministic automata, and the words that they accept. A run starts in state 0.
use Rattle.std.specs.Prelude.{◌≡◌, ℕ, ◌+◌, ◌*◌, ◌<◌, ◌⊎◌, ◌↔◌, IsTrue, List, [], ◌∷◌, length, slice_index}
use Rattle.bit_set.specs.{Members.IsSameSet, Sets.has}
use Rattle.automata.specs.{Numbering.set_of, Runs.{Automaton, IsReach}}

-- What contracts see of a deterministic automaton: how many states and symbols it has; for each state and symbol, at
-- state * symbols + symbol, the state to which the symbol leads; and the accepting states.
pub record Table : Type 0 where
  pub states : ℕ
  pub symbols : ℕ
  pub next : List ℕ
  pub accepting : List ℕ

-- the state to which a symbol leads, of so many symbols
abbrev pub next_state : ℕ → List ℕ → ℕ → ℕ → ℕ
next_state symbols next state symbol = slice_index next (state * symbols + symbol)

-- the state to which a word leads from a state
abbrev pub end_from : ℕ → List ℕ → ℕ → List ℕ → ℕ
end_from symbols next state [] = state
end_from symbols next state (symbol ∷ word) = end_from symbols next (next_state symbols next state symbol) word

-- the state to which a word leads
abbrev pub end_of : Table → List ℕ → ℕ
end_of dfa word = end_from dfa.symbols dfa.next 0 word

-- each symbol of the word is below n
abbrev pub IsWordOver : ℕ → List ℕ → Type 0
IsWordOver n [] = Unit {0}
IsWordOver n (symbol ∷ word) = (symbol < n) × IsWordOver n word

-- the word is one over the symbols of the table, and leads to an accepting state
abbrev pub IsAcceptedBy : Table → List ℕ → Type 0
IsAcceptedBy dfa word = IsWordOver dfa.symbols word × IsTrue (has dfa.accepting (end_of dfa word))

-- the two tables accept the same words
abbrev pub AcceptTheSame : Table → Table → Type 0
AcceptTheSame a b = (word : List ℕ) → IsAcceptedBy a word ↔ IsAcceptedBy b word

-- just one of the two tables accepts the word
abbrev pub IsAcceptedByOne : Table → Table → List ℕ → Type 0
IsAcceptedByOne a b word = (IsAcceptedBy a word × (¬ IsAcceptedBy b word)) ⊎ (IsAcceptedBy b word × (¬ IsAcceptedBy a word))

-- there is a state, and each symbol leads from each state to a state
pub record IsTable (states symbols : ℕ) (next : List ℕ) : Type 0 where
  pub start : 0 < states
  pub whole : length next ≡ states * symbols
  pub inside : (i : ℕ) → i < length next → slice_index next i < states

-- each of the sets is all that some word over the symbols reaches
abbrev pub AreReached : Automaton → List (List ℕ) → Type 0
AreReached nfa sets = (i : ℕ) → i < length sets
    → (word : List ℕ) × IsWordOver (length nfa.moves) word × IsReach nfa word (set_of sets i)

-- no two of the sets are the same
abbrev pub AreApart : List (List ℕ) → Type 0
AreApart sets = (i j : ℕ) → i < length sets → j < length sets → IsSameSet (set_of sets i) (set_of sets j) → i ≡ j

-- State i of the table represents set i of the list: a word leads to the state whose set it reaches. Each state is one
-- to which some word leads, and no two represent the same set.
pub record IsSubsetTable (nfa : Automaton) (dfa : Table) (sets : List (List ℕ)) : Type 0 where
  pub symbols : dfa.symbols ≡ length nfa.moves
  pub states : dfa.states ≡ length sets
  pub leads : (word : List ℕ) → IsWordOver dfa.symbols word
      → (end_of dfa word < dfa.states) × IsReach nfa word (set_of sets (end_of dfa word))
  pub reached : (state : ℕ) → state < dfa.states
      → (word : List ℕ) × IsWordOver dfa.symbols word × (end_of dfa word ≡ state)
  pub apart : AreApart sets

-- words reach more than n sets
abbrev pub ReachesMoreThan : ℕ → Automaton → Type 0
ReachesMoreThan n nfa = (sets : List (List ℕ)) × AreReached nfa sets × AreApart sets × (n < length sets)
