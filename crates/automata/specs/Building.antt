-- A table on its way: sets that are numbered, and of the first of them where the symbols lead.
use Rattle.std.specs.Prelude.{◌≡◌, ℕ, ◌+◌, ◌*◌, ◌<◌, IsTrue, List, length}
use Rattle.bit_set.specs.Sets.{IsAscending, has}
use Rattle.automata.specs.{Numbering.set_of, Runs.{Automaton, IsImage, row_of}}
use Rattle.automata.specs.Tables.{AreApart, AreReached, next_state}

-- the symbol leads from set i to the set that the table says
pub record IsEntry (nfa : Automaton) (sets : List (List ℕ)) (next : List ℕ) (i symbol : ℕ) : Type 0 where
  pub from : i < length sets
  pub to : next_state (length nfa.moves) next i symbol < length sets
  pub image : IsImage (row_of nfa.moves symbol) (set_of sets i) (set_of sets (next_state (length nfa.moves) next i symbol))

pub record Builds (nfa : Automaton) (sets : List (List ℕ)) (next : List ℕ) : Type 0 where
  pub some : 0 < length sets
  pub start : set_of sets 0 ≡ nfa.starts
  pub ascend : (i : ℕ) → i < length sets → IsAscending (set_of sets i)
  pub reached : AreReached nfa sets
  pub apart : AreApart sets
  pub entries : (i symbol : ℕ) → symbol < length nfa.moves → i * length nfa.moves + symbol < length next
      → IsEntry nfa sets next i symbol

-- two sets share a state
abbrev pub Meets : List ℕ → List ℕ → Type 0
Meets s t = (v : ℕ) × IsTrue (has s v) × IsTrue (has t v)
