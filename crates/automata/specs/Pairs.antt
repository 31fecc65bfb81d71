-- A table with one state more, from which no word is accepted: to it lead the symbols that the table does not have.
use Rattle.std.specs.Prelude.{ℕ, max, Bool, ◌&&◌, if◌then◌else◌, nat_lt, List, [], ◌∷◌}
use Rattle.bit_set.specs.Sets.{has}
use Rattle.automata.specs.Tables.{Table, next_state}

-- where the symbol leads from the state; the state more is `states`
abbrev pub step_of : Table → ℕ → ℕ → ℕ
step_of dfa state symbol = if nat_lt state dfa.states && nat_lt symbol dfa.symbols then next_state dfa.symbols dfa.next state symbol else dfa.states

-- the state to which a word leads from a state
abbrev pub walk_from : Table → ℕ → List ℕ → ℕ
walk_from dfa state [] = state
walk_from dfa state (symbol ∷ word) = walk_from dfa (step_of dfa state symbol) word

-- the state is one of the table's, and accepting
abbrev pub does_accept : Table → ℕ → Bool
does_accept dfa state = nat_lt state dfa.states && has dfa.accepting state

-- how many symbols at least one of the two has
abbrev pub symbols_of : Table → Table → ℕ
symbols_of a b = max a.symbols b.symbols
