-- How matrices compare, what a hasher is fed of one, and its text.
use Rattle.std.specs.{Prelude.{ℕ, Bool, List, [], ◌∷◌, ◌++◌, codes, length, nat_eq}, List.{flat_map}, Cmp.Lexicographic.{pointwise}}
use Rattle.std.specs.Hash as fed
use Rattle.bit_set.specs.{Order.{fed_of_set}, Texts.{items_text}}
use Rattle.bit_matrix.specs.Matrices.{Matrix}

-- what fixes a matrix: a list of the number of columns alone, and the rows
abbrev pub key_of : Matrix → List (List ℕ)
key_of m = (m.columns ∷ []) ∷ m.rows

-- whether two matrices are the same
abbrev pub same_matrices : Matrix → Matrix → Bool
same_matrices a b = pointwise (pointwise nat_eq) (key_of a) (key_of b)

-- what a hasher is fed of a row: how many columns are in it and then these, each as a `usize`
abbrev pub fed_of_row : List ℕ → List (List ℕ)
fed_of_row row = fed.usize (length row) ++ fed_of_set row

-- what it is fed: the number of columns, and each row
abbrev pub fed_of_key : List (List ℕ) → List (List ℕ)
fed_of_key [] = []
fed_of_key ([] ∷ rows) = []
fed_of_key ((columns ∷ others) ∷ rows) = fed.usize columns ++ flat_map fed_of_row rows

-- the text of a matrix: a line for each row, with the text of the set
abbrev pub rows_text : List (List ℕ) → List ℕ
rows_text rows = flat_map (λ row. items_text row ++ codes "\n") rows
