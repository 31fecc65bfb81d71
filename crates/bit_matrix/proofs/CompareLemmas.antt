-- When two matrices are the same: as tables, by their blocks.
use Rattle.std.proofs.Common.{◌≡◌, ℕ, zero, suc, ◌+◌, ◌*◌, ◌/◌, ◌%◌, ◌^◌, ◌<◌, ◌↔◌, Bool, true, List, [], length, map, get_or, nat_eq, sym, ap, ap₂, ◌∙◌, subst, arith, inl, inr, mod-lt}
use Rattle.std.proofs.lemmas.{Bool.{cases_lt}, Nat.{div-add-mod', div_below}, List.{ext_get_or, get_or_past, length-map}}
use Rattle.std.specs.Cmp.Lexicographic.{bytes_decides, pointwise, pointwise_decides}
use Rattle.bit_blocks.{specs.Bits.blocks_for, proofs.VectorLemmas.numbers_below}
use Rattle.bit_matrix.specs.{Compared.{key_of, same_matrices}, Matrices.{IsMatrix, KeepsShape, Matrix, has_at, row_of}, Tables.{IsCleanPast, IsTable, matrix_in, row_in}}
use Rattle.bit_set.proofs.SetLemmas.{same_members}
use Rattle.bit_matrix.proofs.{MergeLemmas.blocks_stay, SeenLemmas.{enough}, TableLemmas.{get_or-rows_in}}

key_fixes : (a b : Matrix) → key_of a ≡ key_of b → a ≡ b
key_fixes a b same =
    let rows : a.rows ≡ b.rows = cc in
    let columns : a.columns ≡ b.columns = cc in
    ap₂ (λ (xss : List (List ℕ)) (n : ℕ). let s : Matrix = record { rows = xss; columns = n } in s) rows columns

-- matrices of one shape that have the same columns in each row are the same
same_bits : (a b : Matrix) → IsMatrix a → IsMatrix b → KeepsShape a b → ((r c : ℕ) → has_at b r c ≡ has_at a r c) → a ≡ b
same_bits a b is_a is_b shape bits =
    let rows : a.rows ≡ b.rows = ext_get_or [] a.rows b.rows (sym shape.rows)
    (λ r within. same_members (row_of a r) (row_of b r) (is_a.ascends r) (is_b.ascends r) (λ c. sym (bits r c))) in
    key_fixes a b (ap₂ (λ (xss : List (List ℕ)) (n : ℕ). let s : Matrix = record { rows = xss; columns = n } in key_of s) rows (sym shape.columns))

-- what tells that matrices are the same tells that their bits are
pub tells_bits : (result : Bool) (a b : Matrix) → IsMatrix a → IsMatrix b → ((result ≡ true) ↔ (a ≡ b))
    → (result ≡ true) ↔ (KeepsShape a b × ((r c : ℕ) → has_at b r c ≡ has_at a r c))
tells_bits result a b is_a is_b same = (
  λ yes. let e : b ≡ a = sym (same.0 yes) in (record { rows = ap (λ m. length m.rows) e; columns = ap (λ m. m.columns) e }, λ r c. ap (λ m. has_at m r c) e),
  λ both. same.1 (same_bits a b is_a is_b both.0 both.1),
)

pub same_decides : (a b : Matrix) → (same_matrices a b ≡ true) ↔ (a ≡ b)
same_decides a b =
    let lists = pointwise_decides {E = pointwise nat_eq} bytes_decides (key_of a) (key_of b) in
    (λ yes. key_fixes a b (lists.0 yes), λ same. lists.1 (ap key_of same))

pub tells_same : (result : Bool) (a b : Matrix) → ((result ≡ true) ↔ (a ≡ b)) → result ≡ same_matrices a b
tells_same result a b tells =
    let decides = same_decides a b in
    let there = λ (yes : result ≡ true). decides.1 (tells.0 yes) in
    let back = λ (yes : same_matrices a b ≡ true). tells.1 (decides.0 yes) in
    grind (arith, there, back)

positive_factor : (a b k : ℕ) → k < a * b → 0 < b
positive_factor a zero k below = absurd (omega (arith, below))
positive_factor a (suc b) k below = omega arith

module _ {X : Type 0} {w : ℕ} {number : X → ℕ} {is_block : X → Type 0} {xs ys : List X}
    {rows columns stride rows' columns' stride' : ℕ} {m n : Matrix} (pos : 0 < w)
    (table : IsTable w number is_block xs rows columns stride) (is : matrix_in w stride rows columns (map number xs) ≡ m)
    (other : IsTable w number is_block ys rows' columns' stride')
    (are : matrix_in w stride' rows' columns' (map number ys) ≡ n) (as_many : rows' ≡ rows)
    (as_wide : columns' ≡ columns) (law : (x : X) → is_block x → number x < 2 ^ w) where
  same_stride : stride' ≡ stride
  same_stride = other.in_row ∙ ap (blocks_for w) as_wide ∙ sym table.in_row

  same_count : length (map number xs) ≡ length (map number ys)
  same_count = length-map xs number ∙ table.count ∙ sym (length-map ys number ∙ other.count ∙ ap₂ (λ a b. a * b) as_many same_stride)

  seen_alike : matrix_in w stride rows columns (map number ys) ≡ n
  seen_alike = sym (ap₂ (λ a b. matrix_in w stride' a b (map number ys)) as_many as_wide ∙ ap (λ s. matrix_in w s rows columns (map number ys)) same_stride) ∙ are

  clean_alike : IsCleanPast w stride columns (map number ys)
  clean_alike = subst (λ s. IsCleanPast w s columns (map number ys)) same_stride (subst (λ k. IsCleanPast w stride' k (map number ys)) as_wide other.clean)

  rows_alike : m ≡ n → (r : ℕ) → r < rows → row_in w stride columns (map number ys) r ≡ row_in w stride columns (map number xs) r
  rows_alike same r within =
      sym (get_or-rows_in w stride columns rows (map number ys) r within) ∙ ap (λ s. row_of s r) (seen_alike ∙ sym same ∙ sym is) ∙ get_or-rows_in w stride columns rows (map number xs) r within

  pub same_tables : ((k : ℕ) → get_or (map number xs) k 0 ≡ get_or (map number ys) k 0) ↔ (m ≡ n)
  same_tables = (
    λ blocks. sym is ∙ ap (matrix_in w stride rows columns) (ext_get_or 0 (map number xs) (map number ys) same_count (λ k below. blocks k)) ∙ seen_alike,
    λ same k. elim (cases_lt k (rows * stride)) [
      | inl below ↦
          let some : 0 < stride = positive_factor rows stride k below in
          let r = k / stride in
          let within : r < rows = div_below k stride rows some below in
          let here : r * stride + k % stride ≡ k = div-add-mod' k stride in
          let stay = blocks_stay w stride pos columns (enough pos table is) r (map number xs)
          (map number ys) table.clean clean_alike (numbers_below w number is_block xs law table.each)
          (numbers_below w number is_block ys law other.each) (rows_alike same r within) (k % stride) (mod-lt k some) in
          sym (ap (λ i. get_or (map number ys) i 0) (sym here) ∙ stay ∙ ap (λ i. get_or (map number xs) i 0) here)
      | inr past ↦ get_or_past (map number xs) k 0 (omega (arith, past, length-map xs number, table.count))
          ∙ sym (get_or_past (map number ys) k 0 (omega (arith, past, same_count, length-map xs number, table.count)))
    ],
  )
