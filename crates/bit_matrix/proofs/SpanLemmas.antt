-- What becomes of a row of which a range is filled, or all is cleared.
use Rattle.std.proofs.Common.{◌≡◌, ◌≢◌, ℕ, ◌+◌, ◌-◌, ◌*◌, ◌<◌, ◌≤◌, Bool, true, false, if◌then◌else◌, ◌||◌, List, [], All, length, map, sym, ap, ◌∙◌, arith, inl, inr}
use Rattle.std.proofs.lemmas.{Bool.{cases_eq, cases_lt, Decides.nat_tests}, Nat.{row_fits}, List.{set-get_or}}
use Rattle.std.specs.List.{range_with_len}
use Rattle.bit_blocks.specs.{BlockMerges.IsMergedSpan, Merges.merge_of_values, Ranges.in_range, declared.block.merge.Merge.{Merge, TheVariants.{Difference, Union}}}
use Rattle.bit_set.specs.{Ranges.{span}, Sets.{IsAscending, has, union}}
use Rattle.bit_set.proofs.{AlgebraLemmas.{has-union}, MemberLemmas.{none_from_members}, RangeLemmas.{IsAscending-span, has-span}, SetLaws.{IsAscending-put_all}, SetLemmas.{same_members}}
use Rattle.bit_matrix.specs.{Matrices.{IsMatrix, Matrix, has_at, row_of, with_row}, Tables.{IsCleanPast, IsTable, bit_of, matrix_in}}
use Rattle.bit_matrix.proofs.{SeenLemmas.{enough, none_past, seen_rows}, TableLemmas.{becomes, has_at-below}}

-- the matrix with a row that it has
pub with_row_of : (m : Matrix) (r : ℕ) → with_row m r (row_of m r) ≡ m
with_row_of m r = ap (λ (xss : List (List ℕ)). let s : Matrix = record { rows = xss; columns = m.columns } in s) (set-get_or m.rows r [])

pub span-none : (a b : ℕ) → b ≤ a → span a b ≡ []
unfolding span
span-none a b past = ap (range_with_len a) (let e : b - a ≡ 0 = omega arith in e)

-- all columns and those of a row are all columns
pub all_columns : (s : List ℕ) (n : ℕ) → IsAscending s → ((c : ℕ) → n ≤ c → has s c ≡ false) → union s (span 0 n) ≡ span 0 n
all_columns s n up past =
    same_members _ _ (IsAscending-put_all s (span 0 n) up) (IsAscending-span 0 n)
    (λ c. has-union s (span 0 n) c ∙ (let here = has-span 0 n c in let none = past c in grind (arith, nat_tests)))

pub empty_row : (m : Matrix) → IsMatrix m → m.columns ≡ 0 → (r : ℕ) → with_row m r [] ≡ m
empty_row m is none r = ap (with_row m r) (sym (none_from_members (row_of m r) (λ c. none_past m is r c (omega (arith, none))))) ∙ with_row_of m r

module _ (merge : Merge) (w stride : ℕ) (ms ns : List ℕ) (r start end first last : ℕ) (at : first ≡ r * (stride * w) + start)
    (to : last ≡ r * (stride * w) + end) (forward : start ≤ end) (inside : end ≤ stride * w)
    (merged : IsMergedSpan merge w first last ms ns) where
  span_inside : (c : ℕ) → start ≤ c → c < end → bit_of w stride ns r c ≡ merge_of_values merge (bit_of w stride ms r c) true
  span_inside c from below = merged.inside (r * (stride * w) + c) (omega (arith, at)) (omega (arith, to))

  span_before : (c : ℕ) → c < start → bit_of w stride ns r c ≡ bit_of w stride ms r c
  span_before c below = merged.before (r * (stride * w) + c) (omega (arith, at))

  span_after : (c : ℕ) → end ≤ c → bit_of w stride ns r c ≡ bit_of w stride ms r c
  span_after c past = merged.after (r * (stride * w) + c) (omega (arith, to))

  pub span_other : (q c : ℕ) → q ≢ r → c < stride * w → bit_of w stride ns q c ≡ bit_of w stride ms q c
  span_other q c other below = elim (cases_lt q r) [
    | inl before ↦ merged.before (q * (stride * w) + c) (let row = row_fits q (stride * w) r (stride * w) before (omega arith) in omega (arith, at, row))
    | inr past ↦ merged.after (q * (stride * w) + c) (let row = row_fits r (stride * w) q (stride * w) (omega (arith, past, other)) (omega arith) in omega (arith, to, row))
  ]

  pub span_row : (c : ℕ) → bit_of w stride ns r c ≡ (if in_range start end c then merge_of_values merge (bit_of w stride ms r c) true else bit_of w stride ms r c)
  span_row c = elim (cases_lt c start) [
    | inl low ↦ span_before c low ∙ grind (arith, nat_tests)
    | inr from ↦ elim (cases_lt c end) [
      | inl high ↦ span_inside c from high ∙ grind (arith, nat_tests)
      | inr beyond ↦ span_after c beyond ∙ grind (arith, nat_tests)
    ]
  ]

  pub span_clean : (columns : ℕ) → ((c : ℕ) → columns ≤ c → c < end → merge_of_values merge false true ≡ false) → IsCleanPast w stride columns ms → IsCleanPast w stride columns ns
  span_clean columns clears clean = record {
    tail = λ q c past below. elim (cases_eq q r) [
      | inl here ↦ ap (λ k. bit_of w stride ns k c) here ∙ elim (cases_lt c start) [
        | inl low ↦ span_before c low ∙ clean.tail r c past below
        | inr from ↦ elim (cases_lt c end) [
          | inl high ↦ span_inside c from high ∙ ap (λ b. merge_of_values merge b true) (clean.tail r c past below) ∙ clears c past high
          | inr beyond ↦ span_after c beyond ∙ clean.tail r c past below
        ]
      ]
      | inr other ↦ span_other q c other below ∙ clean.tail q c past below
    ];
  }

module _ {X : Type 0} {w : ℕ} {number : X → ℕ} {is_block : X → Type 0} {xs : List X}
    {rows columns stride : ℕ} {m : Matrix} (pos : 0 < w) (table : IsTable w number is_block xs rows columns stride)
    (is : matrix_in w stride rows columns (map number xs) ≡ m)
    (merge : Merge) (ys : List X) (r start end first last : ℕ) (row : r < length m.rows)
    (at : first ≡ r * (stride * w) + start) (to : last ≡ r * (stride * w) + end) (forward : start ≤ end)
    (inside : end ≤ stride * w) (merged : IsMergedSpan merge w first last (map number xs) (map number ys)) where
  pub span_table : ((c : ℕ) → columns ≤ c → c < end → merge_of_values merge false true ≡ false) → All is_block ys → length ys ≡ length xs → IsTable w number is_block ys rows columns stride
  span_table clears each long = record {
    each = each;
    in_row = table.in_row;
    count = long ∙ table.count;
    clean = span_clean merge w stride _ _ r start end first last at to forward inside merged columns clears table.clean;
    fits = table.fits;
  }

  pub becomes_spanned : (xs_now : List ℕ) → IsAscending xs_now
      → ((c : ℕ) → c < columns → has xs_now c ≡ (if in_range start end c then merge_of_values merge
      (has_at m r c) true else has_at m r c)) → ((c : ℕ) → columns ≤ c → has xs_now c ≡ false)
      → matrix_in w stride rows columns (map number ys) ≡ with_row m r xs_now
  becomes_spanned xs_now up members past =
      let within : r < rows = omega (arith, row, seen_rows pos table is) in
      becomes w stride columns rows (map number xs) (map number ys) r xs_now within up
      (λ c below. span_row merge w stride _ _ r start end first last at to forward inside merged c
      ∙ ap (λ b. if in_range start end c then merge_of_values merge b true else b) (sym (has_at-below w stride columns rows (map number xs) r c within below) ∙ ap (λ s. has_at s r c) is)
      ∙ sym (members c below))
      past
      (λ q c other below. span_other merge w stride _ _ r start end first last at to forward inside merged q c other (omega (arith, below, enough pos table is)))
      ∙ ap (λ s. with_row s r xs_now) is

-- the members of a row with a range, and those of none
pub filled_members : (s : List ℕ) (a b c : ℕ) → has (union s (span a b)) c ≡ (has s c || in_range a b c)
filled_members s a b c = has-union s (span a b) c ∙ ap (λ x. has s c || x) (has-span a b c)

pub filled_as_merged : (s : List ℕ) (a b c : ℕ) → has (union s (span a b)) c ≡ (if in_range a b c then merge_of_values Union (has s c) true else has s c)
filled_as_merged s a b c = filled_members s a b c ∙ grind arith

pub cleared_as_merged : (b : Bool) (start end c : ℕ) → start ≡ 0 → c < end → false ≡ (if in_range start end c then merge_of_values Difference b true else b)
cleared_as_merged b start end c none below = grind (arith, nat_tests)

pub past_filled : (s : List ℕ) (a b c : ℕ) → has s c ≡ false → b ≤ c → has (union s (span a b)) c ≡ false
past_filled s a b c none past = filled_members s a b c ∙ grind (arith, nat_tests)
