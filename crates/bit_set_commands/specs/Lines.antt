-- The lines of an input.
use Rattle.std.specs.Prelude.{◌≡◌, ◌≢◌, ℕ, ◌==◌, if◌then◌else◌, List, [], ◌∷◌, ◌++◌, ◌⊎◌, None, IfSome}
use Rattle.std.specs.List.{All, last_or, onto_first}
use Rattle.bit_set_commands.specs.Cuts.{Lacks}

-- a byte 10 ends a line, and what is after the last of them is a line where it has a byte
abbrev pub lines_of : List ℕ → List (List ℕ)
lines_of [] = []
lines_of (b ∷ bs) = if b == 10 then [] ∷ lines_of bs else onto_first b (lines_of bs)

-- the texts, each with a byte 10 after it
abbrev pub text_of_lines : List (List ℕ) → List ℕ
text_of_lines [] = []
text_of_lines (text ∷ texts) = text ++ 10 ∷ text_of_lines texts

-- the last of the texts, where there is one, has a byte
abbrev pub EndsWithBytes : List (List ℕ) → Type 0
EndsWithBytes texts = IfSome (last_or None texts) (λ text. text ≢ [])

-- These are the lines of the input: none holds a byte 10, and the input is all of them with a byte 10
-- after each, or the same without the last byte 10, the last line then not being empty.
pub record AreLines (input : List ℕ) (lines : List (List ℕ)) : Type 0 where
  pub whole : All (Lacks 10) lines
  pub joined : (input ≡ text_of_lines lines) ⊎ ((input ++ 10 ∷ [] ≡ text_of_lines lines) × EndsWithBytes lines)
