-- What contracts see of a table, and of what becomes of it: of a matrix m with these blocks.
use Rattle.std.proofs.Common.{◌≡◌, ℕ, ◌+◌, ◌*◌, ◌/◌, ◌^◌, ◌<◌, ◌≤◌, ◌==◌, ◌↔◌, Bool, true, false, if◌then◌else◌, List, All, [], length, map, get_or, take, drop, IsTrue, sym, ap, ◌∙◌, subst, arith}
use Rattle.std.proofs.lemmas.{Bool.{Decides.nat_tests}, Nat.{row_fits}, List.{get_or-set_same, length-drop, length-take-le, set-get_or}}
use Rattle.std.specs.Global.{Vec}
use Rattle.bit_blocks.specs.Storage.{value_at, WritesInPlace, WritesValue}
use Rattle.bit_blocks.proofs.{BitsLemmas.blocks_for-enough, VectorLemmas.numbers_below}
use Rattle.bit_blocks.specs.{BlockMerges.MergesToFalse, declared.block.merge.Merge.{Merge, TheVariants.{Difference, Intersection}}}
use Rattle.bit_set.specs.Sets.{IsAscending, has, is_disjoint, is_subset, merge_of_sets, put, without}
use Rattle.bit_set.proofs.{SetLemmas.{AscendsFrom-filter, AscendsFrom-put, has-put, has-without}, SubsetLemmas.{is_disjoint-members, is_subset-members}}
use Rattle.bit_matrix.specs.{Matrices.{IsMatrix, Matrix, has_at, row_of, with_row}, Merges.{IsMergedPart}, Tables.{IsCleanPast, IsTable, matrix_in, row_in}}
use Rattle.bit_matrix.proofs.{MergeLemmas.{becomes_merged, blocks_stay, merged_clean, row_stays}, RowLemmas.{map-slice, slice_members}}
use Rattle.bit_matrix.proofs.TableLemmas.{becomes_written, block_within, get_or-rows_in, has_at-below, is_matrix, length-rows_in, row_in-same, written_clean}

-- blocks written in place are as many
pub as_long : {X : Type 0} (is_block : X → Type 0) (old new : Vec X) → WritesInPlace is_block old new → length new.items ≡ length old.items
as_long is_block old new in_place = omega (arith, old.ok.0, new.ok.0, in_place.len)

-- Where bit c of row r is.
pub record IsPlace (w stride r c count : ℕ) : Type 0 where
  pub below : c < stride * w
  pub within : stride * w < 2 ^ 64
  pub fits : r * (stride * w) + c < 2 ^ 64
  pub block : (r * (stride * w) + c) / w < count

module _ {X : Type 0} {w : ℕ} {number : X → ℕ} {is_block : X → Type 0} {xs : List X}
    {rows columns stride : ℕ} {m : Matrix} (pos : 0 < w) (table : IsTable w number is_block xs rows columns stride)
    (is : matrix_in w stride rows columns (map number xs) ≡ m) where
  pub seen_rows : length m.rows ≡ rows
  seen_rows = ap (λ s. length s.rows) (sym is) ∙ length-rows_in w stride columns rows (map number xs)

  pub seen_columns : m.columns ≡ columns
  seen_columns = ap (λ s. s.columns) (sym is)

  pub seen_matrix : IsMatrix m
  seen_matrix = subst IsMatrix is (is_matrix w stride columns rows (map number xs))

  pub enough : columns ≤ stride * w
  enough = let most = blocks_for-enough w columns pos in let same = ap (λ n. n * w) table.in_row in omega (arith, most, same)

  -- a row is among the blocks
  pub row_within : (r : ℕ) → r < length m.rows → r * stride + stride ≤ length xs
  row_within r row = omega (arith, row_fits r stride rows stride (omega (arith, seen_rows, row)) (omega arith), table.count)

  pub row_bits_fit : (r : ℕ) → r < length m.rows → r * (stride * w) + stride * w ≤ rows * (stride * w)
  row_bits_fit r row = row_fits r (stride * w) rows (stride * w) (omega (arith, seen_rows, row)) (omega arith)

  pub place : (r c : ℕ) → r < length m.rows → c < m.columns → IsPlace w stride r c (length xs)
  place r c row column =
      let bits = row_bits_fit r row in
      let inside : r < rows = omega (arith, seen_rows, row) in
      let below : c < stride * w = omega (arith, enough, seen_columns, column) in
      record {
        below = below;
        within = omega (arith, bits, table.fits);
        fits = omega (arith, bits, table.fits, below);
        block = let block = block_within w stride rows r c pos inside below in omega (arith, block, table.count);
      }

  pub seen_bit : (r c : ℕ) → r < length m.rows → c < m.columns → value_at w (map number xs) (r * (stride * w) + c) ≡ has_at m r c
  seen_bit r c row column = sym (has_at-below w stride columns rows (map number xs) r c (omega (arith, seen_rows, row)) (omega (arith, seen_columns, column))) ∙ ap (λ s. has_at s r c) is

  -- ---- one bit written

  module _ (ys : List X) (r c : ℕ) (b : Bool) (row : r < length m.rows) (column : c < m.columns) (written : WritesValue w (map number xs) (map number ys) (r * (stride * w) + c) b) where
    pub written_table : All is_block ys → length ys ≡ length xs → IsTable w number is_block ys rows columns stride
    written_table each long = record {
      each = each;
      in_row = table.in_row;
      count = long ∙ table.count;
      clean = written_clean w stride rows columns _ _ r c b written (omega (arith, seen_rows, row)) (omega (arith, seen_columns, column)) enough table.clean;
      fits = table.fits;
    }

    written_row : (row_now : List ℕ) → IsAscending row_now → ((d : ℕ) → has row_now d ≡ (if c == d then b else has_at m r d)) → matrix_in w stride rows columns (map number ys) ≡ with_row m r row_now
    written_row row_now up members =
        becomes_written w stride rows columns _ _ r c b written (omega (arith, seen_rows, row))
        (omega (arith, seen_columns, column)) enough row_now up
        (λ d. members d ∙ ap (λ s. if c == d then b else has_at s r d) (sym is))
        ∙ ap (λ s. with_row s r row_now) is

    pub becomes_put : b ≡ true → matrix_in w stride rows columns (map number ys) ≡ with_row m r (put (row_of m r) c)
    becomes_put on = written_row _ (AscendsFrom-put 0 (row_of m r) c (omega arith) (seen_matrix.ascends r)) (λ d. has-put (row_of m r) c d ∙ grind (arith, nat_tests, on))

    pub becomes_without : b ≡ false → matrix_in w stride rows columns (map number ys) ≡ with_row m r (without (row_of m r) c)
    becomes_without off = written_row _ (AscendsFrom-filter 0 _ (row_of m r) (seen_matrix.ascends r)) (λ d. has-without (row_of m r) c d ∙ grind (arith, nat_tests, off))

  -- ---- the blocks of a row

  pub slice_bits : (r : ℕ) → r < length m.rows → (ys : List X) → ys ≡ take stride (drop (r * stride) xs) → (c : ℕ) → value_at w (map number ys) c ≡ has_at m r c
  slice_bits r row ys slice c =
      ap (λ zs. value_at w (map number zs) c) slice
      ∙ ap (λ ms. value_at w ms c) (map-slice number (r * stride) stride xs)
      ∙ slice_members w stride columns (map number xs) r c pos table.clean enough
      ∙ ap (λ row. has row c) (sym (get_or-rows_in w stride columns rows (map number xs) r (omega (arith, seen_rows, row))))
      ∙ ap (λ s. has_at s r c) is

  pub slice_length : (r : ℕ) → r < length m.rows → (ys : List X) → ys ≡ take stride (drop (r * stride) xs) → length ys ≡ stride
  slice_length r row ys slice =
      let within = row_within r row in
      ap length slice ∙ length-take-le stride (drop (r * stride) xs) (omega (arith, length-drop (r * stride) xs, within))

  -- whether the blocks of a row stay is whether the row does
  pub reported_by_blocks : (ys : List X) (q : ℕ) → q < length m.rows → IsCleanPast w stride columns (map number ys)
      → (law : (x : X) → is_block x → number x < 2 ^ w) → All is_block ys → (stays : Type 0)
      → (stays ↔ ((k : ℕ) → k < stride → get_or (map number ys) (q * stride + k) 0 ≡ get_or (map number xs)
      (q * stride + k) 0)) → stays ↔ (row_of (matrix_in w stride rows columns (map number ys)) q ≡ row_of m q)
  reported_by_blocks ys q write clean law each stays tells =
      let inside : q < rows = omega (arith, seen_rows, write) in
      let now = get_or-rows_in w stride columns rows (map number ys) q inside in
      let was : row_of m q ≡ row_in w stride columns (map number xs) q = ap (λ s. row_of s q) (sym is) ∙ get_or-rows_in w stride columns rows (map number xs) q inside in (
        λ yes. now ∙ row_in-same w stride columns (map number xs) (map number ys) q
            (λ c below. row_stays w stride pos q (map number xs) (map number ys) (tells.0 yes) c (omega (arith, below, enough)))
            ∙ sym was,
        λ same. tells.1 (blocks_stay w stride pos columns enough q (map number xs) (map number ys) table.clean clean
            (numbers_below w number is_block xs law table.each) (numbers_below w number is_block ys law each) (sym now ∙ same ∙ was)),
      )

  -- ---- a row merged with another

  module _ (merge : Merge) (ys : List X) (r q : ℕ) (read : r < length m.rows) (write : q < length m.rows)
      (merged : IsMergedPart merge w (r * stride) (q * stride) stride (map number xs) (map number xs) (map number ys)) where
    pub merged_table : All is_block ys → length ys ≡ length xs → IsTable w number is_block ys rows columns stride
    merged_table each long = record {
      each = each;
      in_row = table.in_row;
      count = long ∙ table.count;
      clean = merged_clean w stride pos columns enough merge r q _ _ merged table.clean;
      fits = table.fits;
    }

    pub seen_merged : matrix_in w stride rows columns (map number ys) ≡ with_row m q (merge_of_sets merge (row_of m q) (row_of m r))
    seen_merged =
        becomes_merged w stride pos columns enough merge rows r q _ _ (omega (arith, seen_rows, read))
        (omega (arith, seen_rows, write)) merged ∙ ap (λ s. with_row s q (merge_of_sets merge (row_of s q) (row_of s r))) is

-- a row that stays leaves the matrix
pub with_same_row : (m n : Matrix) (q : ℕ) (row : List ℕ) → n ≡ with_row m q row → q < length m.rows → row_of n q ≡ row_of m q → n ≡ m
with_same_row m n q row is within same =
    let here : row ≡ row_of m q = sym (get_or-set_same m.rows q row [] within) ∙ ap (λ s. row_of s q) (sym is) ∙ same in
    is ∙ ap (λ xs. with_row m q xs) here ∙ ap (λ (xss : List (List ℕ)). let s : Matrix = record { rows = xss; columns = m.columns } in s) (set-get_or m.rows q [])

-- ---- what tests tell of two rows

pub reported_subset : (result : Bool) (w : ℕ) (ms ns s t : List ℕ) → (IsTrue result ↔ MergesToFalse Difference w ms ns)
    → ((c : ℕ) → value_at w ms c ≡ has s c) → ((c : ℕ) → value_at w ns c ≡ has t c) → result ≡ is_subset s t
reported_subset result w ms ns s t tells first second =
    let members = is_subset-members s t in
    let there = λ (yes : result ≡ true). members.1 (λ c is_in. let no = (tells.0 yes).value c in let a = first c in let b = second c in grind (arith, nat_tests)) in
    let back = λ (yes : is_subset s t ≡ true). tells.1 (record { value = λ c. let sub = members.0 yes c in let a = first c in let b = second c in grind (arith, nat_tests) }) in
    grind (arith, there, back)

pub reported_disjoint : (result : Bool) (w : ℕ) (ms ns s t : List ℕ) → (IsTrue result ↔ MergesToFalse Intersection w ms ns)
    → ((c : ℕ) → value_at w ms c ≡ has s c) → ((c : ℕ) → value_at w ns c ≡ has t c) → result ≡ is_disjoint s t
reported_disjoint result w ms ns s t tells first second =
    let members = is_disjoint-members s t in
    let there = λ (yes : result ≡ true). members.1 (λ c is_in also. let no = (tells.0 yes).value c in let a = first c in let b = second c in grind (arith, nat_tests)) in
    let back = λ (yes : is_disjoint s t ≡ true). tells.1 (record { value = λ c. let apart = members.0 yes c in let a = first c in let b = second c in grind (arith, nat_tests) }) in
    grind (arith, there, back)

-- past the columns a row has none
pub none_past : (m : Matrix) → IsMatrix m → (r c : ℕ) → m.columns ≤ c → has_at m r c ≡ false
none_past m is r c past = let below = is.below r c in grind (arith, nat_tests)
