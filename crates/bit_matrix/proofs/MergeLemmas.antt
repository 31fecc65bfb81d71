-- What merges of blocks do to the rows.
use Rattle.std.proofs.Common.{◌≡◌, ◌≢◌, ℕ, ◌+◌, ◌*◌, ◌/◌, ◌%◌, ◌^◌, ◌<◌, ◌≤◌, ◌↔◌, Bool, false, not, List, get_or, sym, ap, ap₂, ◌∙◌, arith, inl, inr, mod-lt}
use Rattle.std.proofs.lemmas.{Bool.{cases_eq, cases_lt}, Nat.{div_below, mul-add-lt, same_from_place}}
use Rattle.std.specs.Cmp.Lexicographic.{bytes_decides}
use Rattle.bit_blocks.specs.{Digits.is_one, Merges.merge_of_values, Storage.value_at, declared.block.merge.Merge.Merge}
use Rattle.bit_blocks.proofs.{MergeLemmas.merge_of_values-none, StorageLemmas.value_at-index}
use Rattle.bit_set.specs.{Order.same_sets, Sets.{has, merge_of_sets}}
use Rattle.bit_set.proofs.AlgebraLemmas.{IsAscending-merge_of_sets, has-merge_of_sets}
use Rattle.bit_matrix.specs.{Matrices.{row_of, with_row}, Merges.IsMergedPart, Tables.{IsCleanPast, bit_of, matrix_in, row_in}}
use Rattle.bit_matrix.proofs.{RowLemmas.{bit_of-digit, same_block}, TableLemmas.{becomes, has-row_in_below, has_at-below, has_at-past, is_matrix}}

-- ---- row by row

bit_in_row : (w stride k j : ℕ) → k < stride → j < w → k * w + j < stride * w
bit_in_row w stride k j within inside = omega (arith, mul-add-lt k w j stride within inside)

module _ (w stride : ℕ) (pos : 0 < w) where
  -- a row that is not written
  pub other_row : (m : Merge) (read count q : ℕ) (ms os ns : List ℕ) → IsMergedPart m w read (q * stride) count ms os ns
      → count ≤ stride → (p c : ℕ) → p ≢ q → c < stride * w → bit_of w stride ns p c ≡ bit_of w stride ms p c
  other_row m read count q ms os ns merged within p c other below =
      let block = div_below c w stride pos below in
      bit_of-digit w stride ns p c pos
      ∙ ap (λ n. is_one n (c % w)) (merged.others (p * stride + c / w) (λ k inside e. other (same_from_place p (c / w) q k stride block (omega (arith, inside)) e).0))
      ∙ sym (bit_of-digit w stride ms p c pos)

  -- the row that is, where another row is read
  pub merged_row : (m : Merge) (r q : ℕ) (ms os ns : List ℕ) → IsMergedPart m w (r * stride) (q * stride) stride ms os ns
      → (c : ℕ) → c < stride * w → bit_of w stride ns q c ≡ merge_of_values m (bit_of w stride ms q c) (bit_of w stride os r c)
  merged_row m r q ms os ns merged c below =
      bit_of-digit w stride ns q c pos
      ∙ merged.digit (c / w) (c % w) (div_below c w stride pos below) (mod-lt c pos)
      ∙ ap₂ (merge_of_values m) (sym (bit_of-digit w stride ms q c pos)) (sym (bit_of-digit w stride os r c pos))

  -- blocks that stay, by rows that stay
  pub row_stays : (q : ℕ) (ms ns : List ℕ) → ((k : ℕ) → k < stride
      → get_or ns (q * stride + k) 0 ≡ get_or ms (q * stride + k) 0) → (c : ℕ) → c < stride * w
      → bit_of w stride ns q c ≡ bit_of w stride ms q c
  row_stays q ms ns same c below =
      bit_of-digit w stride ns q c pos ∙ ap (λ n. is_one n (c % w)) (same (c / w) (div_below c w stride pos below)) ∙ sym (bit_of-digit w stride ms q c pos)

  module _ (columns : ℕ) (enough : columns ≤ stride * w) where
    pub blocks_stay : (q : ℕ) (ms ns : List ℕ) → IsCleanPast w stride columns ms → IsCleanPast w stride columns ns
        → ((k : ℕ) → get_or ms k 0 < 2 ^ w) → ((k : ℕ) → get_or ns k 0 < 2 ^ w)
        → row_in w stride columns ns q ≡ row_in w stride columns ms q → (k : ℕ) → k < stride
        → get_or ns (q * stride + k) 0 ≡ get_or ms (q * stride + k) 0
    blocks_stay q ms ns clean clean_too small small_too same k within =
        same_block w _ _ (small_too (q * stride + k)) (small (q * stride + k)) (λ j inside.
        let c = k * w + j in
        let below : k * w + j < stride * w = bit_in_row w stride k j within inside in
        let as_bit = λ (zs : List ℕ). let e : is_one (get_or zs (q * stride + k) 0) j ≡ bit_of w stride zs q (k * w + j) =
        sym (value_at-index w zs (q * stride + k) j inside)
        ∙ ap (value_at w zs) (let e : (q * stride + k) * w + j ≡ q * (stride * w) + (k * w + j) = omega arith in e) in e in
        as_bit ns ∙ elim (cases_lt (k * w + j) columns) [
          | inl used ↦ sym (has-row_in_below w stride columns ns q (k * w + j) used) ∙ ap (λ xs. has xs (k * w + j)) same ∙ has-row_in_below w stride columns ms q (k * w + j) used
          | inr past ↦ clean_too.tail q (k * w + j) past below ∙ sym (clean.tail q (k * w + j) past below)
        ] ∙ sym (as_bit ms))

    -- what is past the columns stays clean
    pub merged_clean : (m : Merge) (r q : ℕ) (ms ns : List ℕ) → IsMergedPart m w (r * stride) (q * stride) stride ms ms ns → IsCleanPast w stride columns ms → IsCleanPast w stride columns ns
    merged_clean m r q ms ns merged clean = record {
      tail = λ p c past below. elim (cases_eq p q) [
        | inl here ↦ ap (λ n. bit_of w stride ns n c) here ∙ merged_row m r q ms ms ns merged c below
            ∙ ap₂ (merge_of_values m) (clean.tail q c past below) (clean.tail r c past below) ∙ merge_of_values-none m
        | inr other ↦ other_row m (r * stride) stride q ms ms ns merged (omega arith) p c other below ∙ clean.tail p c past below
      ];
    }

    pub becomes_merged : (m : Merge) (rows r q : ℕ) (ms ns : List ℕ) → r < rows → q < rows → IsMergedPart m w (r * stride) (q * stride) stride ms ms ns
        → matrix_in w stride rows columns ns ≡ with_row (matrix_in w stride rows columns ms) q
        (merge_of_sets m (row_of (matrix_in w stride rows columns ms) q) (row_of (matrix_in w stride rows columns ms) r))
    becomes_merged m rows r q ms ns read write merged =
        let row = row_of (matrix_in w stride rows columns ms) in
        becomes w stride columns rows ms ns q (merge_of_sets m (row q) (row r)) write
        (IsAscending-merge_of_sets m (row q) (row r) ((is_matrix w stride columns rows ms).ascends q))
        (λ c below. merged_row m r q ms ms ns merged c (omega (arith, enough, below))
        ∙ ap₂ (merge_of_values m) (sym (has_at-below w stride columns rows ms q c write below))
        (sym (has_at-below w stride columns rows ms r c read below)) ∙ sym (has-merge_of_sets m (row q) (row r) c))
        (λ c past. has-merge_of_sets m (row q) (row r) c
        ∙ ap₂ (merge_of_values m) (has_at-past w stride columns rows ms q c past)
        (has_at-past w stride columns rows ms r c past) ∙ merge_of_values-none m)
        (λ p c other below. other_row m (r * stride) stride q ms ms ns merged (omega arith) p c other (omega (arith, enough, below)))

-- ---- whether a row changed

pub tells_change : (result : Bool) (s t : List ℕ) → ((result ≡ false) ↔ (t ≡ s)) → result ≡ not (same_sets s t)
tells_change result s t tells =
    let same = bytes_decides s t in
    grind (arith, same, tells, λ (e : s ≡ t). sym e)
