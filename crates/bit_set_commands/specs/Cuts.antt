-- A text cut at each index at which a byte is.
use Rattle.std.specs.{List.{All, slice_split}, Prelude.{ℕ, ◌≢◌, List, ◌==◌}}

-- no byte of the text is this one
abbrev pub Lacks : ℕ → List ℕ → Type 0
Lacks byte text = All (λ b. b ≢ byte) text

-- the parts of a text between the indexes at which the byte is
abbrev pub parts_at : ℕ → List ℕ → List (List ℕ)
parts_at byte text = slice_split (λ b. b == byte) text
