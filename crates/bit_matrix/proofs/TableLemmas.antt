-- What the rows of a table have, and what becomes of them where its bits change.
use Rattle.std.proofs.Common.{◌≡◌, ◌≢◌, ℕ, ◌+◌, ◌*◌, ◌/◌, ◌<◌, ◌≤◌, ◌==◌, Bool, false, ◌&&◌, if◌then◌else◌, nat_lt, List, [], length, get_or, set, replicate, sym, ap, ◌∙◌, arith, inl, inr}
use Rattle.std.proofs.lemmas.Bool.{cases_eq, cases_lt, eq-eqb, ne_eqb, true≢false, Decides.nat_tests}
use Rattle.std.proofs.{lemmas.List.{length-replicate, length-set}, lemmas.Nat.{div_below, mul-add-lt, same_from_place}}
use Rattle.std.proofs.lemmas.List.{ext_get_or, get_or-set_other, get_or-set_same, get_or-replicate, get_or_past}
use Rattle.std.proofs.lemmas.List.FromFn.{length-map-range_with_len, get_or-map-range_with_len}
use Rattle.bit_blocks.specs.Storage.{WritesValue}
use Rattle.bit_set.specs.{Ranges.span, Sets.{IsAscending, has}}
use Rattle.bit_set.proofs.{RangeLemmas.{IsAscending-span, has-span}, SetLemmas.{AscendsFrom-filter, has-filter, same_members}}
use Rattle.bit_matrix.specs.{Matrices.{ChangesRow, IsMatrix, Matrix, has_at, matrix_of, row_of, with_row}, Tables.{IsCleanPast, bit_of, matrix_in, row_in, rows_in}}

-- ---- indexes

-- a bit is below those of all rows, and its block below theirs
pub bit_within : (w stride rows r c : ℕ) → r < rows → c < stride * w → r * (stride * w) + c < rows * (stride * w)
bit_within w stride rows r c row column = omega (arith, mul-add-lt r (stride * w) c rows row column)

pub block_within : (w stride rows r c : ℕ) → 0 < w → r < rows → c < stride * w → (r * (stride * w) + c) / w < rows * stride
block_within w stride rows r c pos row column =
    let below = bit_within w stride rows r c row column in
    div_below (r * (stride * w) + c) w (rows * stride) pos (omega (arith, below))

-- ---- what a row has

module _ (w stride columns : ℕ) where
  pub has-row_in : (ms : List ℕ) (r c : ℕ) → has (row_in w stride columns ms r) c ≡ (bit_of w stride ms r c && nat_lt c columns)
  unfolding row_in
  has-row_in ms r c = has-filter (bit_of w stride ms r) (span 0 columns) c ∙ ap (λ b. bit_of w stride ms r c && b) (has-span 0 columns c ∙ grind (arith, nat_tests))

  pub IsAscending-row_in : (ms : List ℕ) (r : ℕ) → IsAscending (row_in w stride columns ms r)
  unfolding row_in
  IsAscending-row_in ms r = AscendsFrom-filter 0 (bit_of w stride ms r) (span 0 columns) (IsAscending-span 0 columns)

  pub has-row_in_below : (ms : List ℕ) (r c : ℕ) → c < columns → has (row_in w stride columns ms r) c ≡ bit_of w stride ms r c
  has-row_in_below ms r c below = has-row_in ms r c ∙ grind (arith, nat_tests)

  -- a row by its members
  pub row_in-is : (ms : List ℕ) (r : ℕ) (xs : List ℕ) → IsAscending xs
      → ((c : ℕ) → c < columns → bit_of w stride ms r c ≡ has xs c) → ((c : ℕ) → columns ≤ c → has xs c ≡ false)
      → row_in w stride columns ms r ≡ xs
  row_in-is ms r xs up inside past =
      same_members _ xs (IsAscending-row_in ms r) up (λ c. has-row_in ms r c ∙ elim (cases_lt c columns) [
        | inl below ↦ let here = inside c below in grind (arith, nat_tests)
        | inr beyond ↦ let here = past c beyond in grind (arith, nat_tests)
      ])

  pub row_in-past : (ms : List ℕ) (r c : ℕ) → columns ≤ c → has (row_in w stride columns ms r) c ≡ false
  row_in-past ms r c past = has-row_in ms r c ∙ grind (arith, nat_tests)

  pub row_in-same : (ms ns : List ℕ) (r : ℕ) → ((c : ℕ) → c < columns → bit_of w stride ns r c ≡ bit_of w stride ms r c) → row_in w stride columns ns r ≡ row_in w stride columns ms r
  row_in-same ms ns r same = row_in-is ns r _ (IsAscending-row_in ms r) (λ c below. same c below ∙ sym (has-row_in_below ms r c below)) (row_in-past ms r)

  -- ---- all rows

  module _ (rows : ℕ) where
    pub length-rows_in : (ms : List ℕ) → length (rows_in w stride rows columns ms) ≡ rows
    unfolding rows_in
    length-rows_in ms = length-map-range_with_len (row_in w stride columns ms) 0 rows

    pub get_or-rows_in : (ms : List ℕ) (r : ℕ) → r < rows → get_or (rows_in w stride rows columns ms) r [] ≡ row_in w stride columns ms r
    unfolding rows_in
    get_or-rows_in ms r below = get_or-map-range_with_len (row_in w stride columns ms) 0 rows r r [] below (omega arith)

    -- the rows by each of them
    pub rows_in-is : (ms : List ℕ) (xss : List (List ℕ)) → length xss ≡ rows → ((r : ℕ) → r < rows → row_in w stride columns ms r ≡ get_or xss r []) → rows_in w stride rows columns ms ≡ xss
    rows_in-is ms xss long each =
        ext_get_or [] _ xss (length-rows_in ms ∙ sym long) (λ r below. let within : r < rows = omega (arith, below, length-rows_in ms) in get_or-rows_in ms r within ∙ each r within)

    -- ---- what contracts see

    pub row_of-past : (ms : List ℕ) (r : ℕ) → rows ≤ r → row_of (matrix_in w stride rows columns ms) r ≡ []
    row_of-past ms r past = get_or_past (rows_in w stride rows columns ms) r [] (omega (arith, length-rows_in ms))

    pub has_at-in : (ms : List ℕ) (r c : ℕ) → r < rows → has_at (matrix_in w stride rows columns ms) r c ≡ (bit_of w stride ms r c && nat_lt c columns)
    has_at-in ms r c within = ap (λ xs. has xs c) (get_or-rows_in ms r within) ∙ has-row_in ms r c

    pub has_at-below : (ms : List ℕ) (r c : ℕ) → r < rows → c < columns → has_at (matrix_in w stride rows columns ms) r c ≡ bit_of w stride ms r c
    has_at-below ms r c within below = has_at-in ms r c within ∙ grind (arith, nat_tests)

    pub has_at-past : (ms : List ℕ) (r c : ℕ) → columns ≤ c → has_at (matrix_in w stride rows columns ms) r c ≡ false
    has_at-past ms r c past = elim (cases_lt r rows) [
      | inl within ↦ has_at-in ms r c within ∙ grind (arith, nat_tests)
      | inr beyond ↦ ap (λ xs. has xs c) (row_of-past ms r beyond)
    ]

    pub is_matrix : (ms : List ℕ) → IsMatrix (matrix_in w stride rows columns ms)
    is_matrix ms = record {
      ascends = λ r. elim (cases_lt r rows) [
        | inl within ↦ rw (get_or-rows_in ms r within) (IsAscending-row_in ms r)
        | inr beyond ↦ rw (row_of-past ms r beyond) tt
      ];
      below = λ r c is_in. elim (cases_lt c columns) [
        | inl below ↦ below
        | inr past ↦ absurd (true≢false (sym is_in ∙ has_at-past ms r c past))
      ];
    }

    -- one row became what has these members
    pub becomes : (ms ns : List ℕ) (r : ℕ) (xs : List ℕ) → r < rows → IsAscending xs
        → ((c : ℕ) → c < columns → bit_of w stride ns r c ≡ has xs c) → ((c : ℕ) → columns ≤ c → has xs c ≡ false)
        → ((q c : ℕ) → q ≢ r → c < columns → bit_of w stride ns q c ≡ bit_of w stride ms q c)
        → matrix_in w stride rows columns ns ≡ with_row (matrix_in w stride rows columns ms) r xs
    becomes ms ns r xs within up inside past others =
        ap (λ (xss : List (List ℕ)). let m : Matrix = record { rows = xss; columns = columns } in m)
        (rows_in-is ns _ (length-set (rows_in w stride rows columns ms) r xs ∙ length-rows_in ms) (λ q below. elim (cases_eq q r) [
          | inl here ↦
              let at : r < length (rows_in w stride rows columns ms) = omega (arith, length-rows_in ms) in
              ap (row_in w stride columns ns) here ∙ row_in-is ns r xs up inside past
              ∙ sym (ap (λ k. get_or (set (rows_in w stride rows columns ms) r xs) k []) here
              ∙ get_or-set_same (rows_in w stride rows columns ms) r xs [] at)
          | inr other ↦ row_in-same ms ns q (λ c. others q c other) ∙ sym (get_or-set_other (rows_in w stride rows columns ms) r q xs [] other ∙ get_or-rows_in ms q below)
        ]))

-- ---- one bit written

module _ (w stride rows columns : ℕ) (ms ns : List ℕ) (r c : ℕ) (b : Bool)
    (written : WritesValue w ms ns (r * (stride * w) + c) b) (row : r < rows) (column : c < columns)
    (enough : columns ≤ stride * w) where
  bit_other : (q d : ℕ) → d < stride * w → (q ≡ r → d ≢ c) → bit_of w stride ns q d ≡ bit_of w stride ms q d
  bit_other q d inside apart =
      written.others (q * (stride * w) + d) (λ e. let same = same_from_place q d r c (stride * w) inside (omega (arith, column, enough)) e in apart same.0 same.1)

  pub written_clean : IsCleanPast w stride columns ms → IsCleanPast w stride columns ns
  written_clean clean = record { tail = λ q d past within. bit_other q d within (λ _ e. omega (arith, e, past, column)) ∙ clean.tail q d past within }

  -- the row has what it had, and c where b is true
  pub becomes_written : (xs : List ℕ) → IsAscending xs
      → ((d : ℕ) → has xs d ≡ (if c == d then b else has_at (matrix_in w stride rows columns ms) r d))
      → matrix_in w stride rows columns ns ≡ with_row (matrix_in w stride rows columns ms) r xs
  becomes_written xs up members =
      becomes w stride columns rows ms ns r xs row up
      (λ d below. elim (cases_eq c d) [
        | inl here ↦ ap (bit_of w stride ns r) (sym here) ∙ written.same ∙ sym (members d ∙ let is = eq-eqb c d here in grind (arith, nat_tests))
        | inr other ↦ bit_other r d (omega (arith, enough, below)) (λ _ e. other (sym e))
            ∙ sym (has_at-below w stride columns rows ms r d row below)
            ∙ sym (members d ∙ let is = ne_eqb c d other in grind (arith, nat_tests))
      ])
      (λ d past. members d ∙ (let is = ne_eqb c d (λ e. omega (arith, e, past, column)) in let none = has_at-past w stride columns rows ms r d past in grind (arith, nat_tests)))
      (λ q d other below. bit_other q d (omega (arith, enough, below)) (λ e. absurd (other e)))

-- ---- what contracts see

pub changes_row : (old new : Matrix) (r : ℕ) (xs : List ℕ) (f : ℕ → Bool) → r < length old.rows → new ≡ with_row old r xs → ((c : ℕ) → has xs c ≡ f c) → ChangesRow old new r f
changes_row old new r xs f within is members = record {
  row = λ c. ap (λ m. has_at m r c) is ∙ ap (λ ys. has ys c) (get_or-set_same old.rows r xs [] within) ∙ members c;
  others = λ q other. ap (λ m. row_of m q) is ∙ get_or-set_other old.rows r q xs [] other;
  rows = ap (λ m. length m.rows) is ∙ length-set old.rows r xs;
  columns = ap (λ m. m.columns) is;
}

-- all rows have the same columns
pub is_matrix_of : (w stride rows columns : ℕ) (ms xs : List ℕ) → IsAscending xs
    → ((r c : ℕ) → r < rows → c < columns → bit_of w stride ms r c ≡ has xs c) → ((c : ℕ) → columns ≤ c → has xs c ≡ false)
    → matrix_in w stride rows columns ms ≡ matrix_of rows columns xs
is_matrix_of w stride rows columns ms xs up inside past =
    ap (λ (xss : List (List ℕ)). let m : Matrix = record { rows = xss; columns = columns } in m)
    (rows_in-is w stride columns rows ms (replicate rows xs) (length-replicate rows xs)
    (λ r within. row_in-is w stride columns ms r xs up (λ c. inside r c within) past
    ∙ sym (get_or-replicate rows r xs [] within)))
