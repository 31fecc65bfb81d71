-- What a matrix has once some of its rows are the columns of another.
use Rattle.std.proofs.Common.{◌≡◌, ℕ, ◌+◌, ◌-◌, ◌*◌, ◌/◌, ◌%◌, ◌<◌, ◌≤◌, ◌⊎◌, ◌++◌, false, List, All, length, map, get_or, subst, sym, ap, ap₂, ◌∙◌, arith, inl, inr, mod-lt}
use Rattle.std.proofs.lemmas.{Bool.{cases_lt}, Nat.{div-add-mod', div-mul-add, div_below, mul-le, row_fits}, List.{get_or_past, length-map, Elements.{All-append, All-drop, All-take}}}
use Rattle.std.proofs.Math.{Nat.{add-mul, mul_assoc}, Seq.{drop-append_seam, take-append_seam}}
use Rattle.bit_blocks.{specs.Digits.is_one, proofs.CompareLemmas.digit_from_zero}
use Rattle.bit_set.specs.Sets.{has}
use Rattle.bit_matrix.specs.{Matrices.{Matrix, has_at}, Squares.{AreRowsTransposed, IsTransposedStrip}, Tables.{IsTable, bit_of, matrix_in}}
use Rattle.bit_matrix.proofs.{PartLemmas.{IsPut}, RowLemmas.{bit_of-digit}, SeenLemmas.{enough}, TableLemmas.{has_at-below, has_at-past, row_of-past}}

-- elements of which some are replaced
pub all_put : {X : Type 0} (P : X → Type 0) (front xs ys back : List X) → All P (front ++ (xs ++ back)) → All P ys → All P (front ++ (ys ++ back))
all_put P front xs ys back all here =
    let low : All P front = subst (λ zs. All P zs) (take-append_seam front (xs ++ back)) (All-take P (length front) (front ++ (xs ++ back)) all) in
    let rest : All P (xs ++ back) = subst (λ zs. All P zs) (drop-append_seam front (xs ++ back)) (All-drop P (length front) (front ++ (xs ++ back)) all) in
    let high : All P back = subst (λ zs. All P zs) (drop-append_seam xs back) (All-drop P (length xs) (xs ++ back) rest) in
    All-append P front (ys ++ back) low (All-append P ys back here high)

-- a strip that is put into the blocks
pub rows_transposed : (w width stride k at : ℕ) (ms ps qs olds news : List ℕ) → at ≡ k * (w * width) → length ps ≡ w * width
    → IsPut at ps qs olds news → IsTransposedStrip w width stride k ms qs → AreRowsTransposed w width stride k ms olds news
rows_transposed w width stride k at ms ps qs olds news here long put strip = record {
  digit = λ i g j row inside column.
      let e : (k * w + i) * width + g ≡ at + (i * width + g) = (let parts = add-mul (k * w) i width in let all = mul_assoc k w width in omega (arith, parts, all, here)) in
      let fits = row_fits i width w width row (omega arith) in
      ap (λ q. is_one (get_or news q 0) j) e ∙ ap (λ m. is_one m j) (put.is (i * width + g) (omega (arith, fits, inside, long))) ∙ strip.digit i g j row inside column;
  others = λ q apart. put.others q (λ i below e. elim apart [
    | inl early ↦ omega (arith, early, e, here)
    | inr late ↦ omega (arith, late, e, here, below, long)
  ]);
}

-- the rows of a strip are among those that there are
pub strip_within : (w width rows k count : ℕ) → (k + 1) * w ≤ rows → count ≡ rows * width → k * (w * width) + w * width ≤ count
strip_within w width rows k count whole is =
    let least = mul-le ((k + 1) * w) width rows width whole (omega arith) in
    let parts = mul_assoc (k + 1) w width in
    let more = add-mul k 1 (w * width) in
    omega (arith, least, parts, more, is)

module _ {X : Type 0} {w : ℕ} {number : X → ℕ} {is_block : X → Type 0} {xs ys : List X}
    {rows columns stride turned_rows turned_columns width : ℕ} {m t : Matrix} (zs : List X) (k : ℕ) (pos : 0 < w)
    (table : IsTable w number is_block xs rows columns stride) (is : matrix_in w stride rows columns (map number xs) ≡ m)
    (turned : IsTable w number is_block ys turned_rows turned_columns width)
    (turned_is : matrix_in w width turned_rows turned_columns (map number ys) ≡ t) (as_rows : turned_rows ≡ columns)
    (as_columns : turned_columns ≡ rows) (whole : (k + 1) * w ≤ columns)
    (now : AreRowsTransposed w width stride k (map number xs) (map number ys) (map number zs)) where
  -- the parts of a column in the strip
  in_block : (c : ℕ) → k * w ≤ c → c < (k + 1) * w → (c / w ≡ k) × (k * w + c % w ≡ c)
  in_block c from below =
      let e : c ≡ k * w + (c - k * w) = omega (arith, from) in
      let inside : c - k * w < w = omega (arith, from, below) in
      let first : c / w ≡ k = ap (λ n. n / w) e ∙ div-mul-add k w (c - k * w) inside in
      (first, ap (λ n. n * w + c % w) (sym first) ∙ div-add-mod' c w)

  in_strip : (r c : ℕ) → k * w ≤ c → c < (k + 1) * w → r < width * w → bit_of w width (map number zs) c r ≡ bit_of w stride (map number xs) r c
  in_strip r c from below inside =
      let parts = in_block c from below in
      bit_of-digit w width (map number zs) c r pos ∙ ap (λ n. is_one (get_or (map number zs) (n * width + r / w) 0) (r % w)) (sym parts.1)
      ∙ now.digit (c % w) (r / w) (r % w) (mod-lt c pos) (div_below r w width pos inside) (mod-lt r pos)
      ∙ ap₂ (λ n q. is_one (get_or (map number xs) (n * stride + q) 0) (c % w)) (div-add-mod' r w) (sym parts.0) ∙ sym (bit_of-digit w stride (map number xs) r c pos)

  elsewhere : (r c : ℕ) → (c < k * w) ⊎ ((k + 1) * w ≤ c) → r < width * w → bit_of w width (map number zs) c r ≡ bit_of w width (map number ys) c r
  elsewhere r c apart inside =
      let low = div_below r w width pos inside in
      let all = mul_assoc k w width in
      bit_of-digit w width (map number zs) c r pos
      ∙ ap (λ n. is_one n (r % w)) (now.others (c * width + r / w) (elim apart [
        | inl early ↦ let fits = row_fits c width (k * w) width early (omega arith) in inl (omega (arith, fits, low, all))
        | inr late ↦
            let least = mul-le ((k + 1) * w) width c width late (omega arith) in
            let parts = mul_assoc (k + 1) w width in
            let more = add-mul k 1 (w * width) in
            inr (omega (arith, least, parts, more))
      ]))
      ∙ sym (bit_of-digit w width (map number ys) c r pos)

  -- past the rows there is nothing
  none_below : (r c : ℕ) → rows ≤ r → bit_of w stride (map number xs) r c ≡ false
  none_below r c past =
      let least = mul-le rows stride r stride past (omega arith) in
      bit_of-digit w stride (map number xs) r c pos ∙ digit_from_zero _ (c % w) (get_or_past (map number xs) (r * stride + c / w) 0 (omega (arith, length-map xs number, table.count, least)))

  apart_or_in : (c : ℕ) → ((k * w ≤ c) × (c < (k + 1) * w)) ⊎ ((c < k * w) ⊎ ((k + 1) * w ≤ c))
  apart_or_in c = elim (cases_lt c (k * w)) [
    | inl early ↦ inr (inl early)
    | inr from ↦ elim (cases_lt c ((k + 1) * w)) [ inl below ↦ inl (from, below) | inr late ↦ inr (inr late) ]
  ]

  pub turned_table : All is_block zs → length zs ≡ length ys → IsTable w number is_block zs turned_rows turned_columns width
  turned_table each long = record {
    each = each;
    in_row = turned.in_row;
    count = long ∙ turned.count;
    clean = record {
      tail = λ c r past inside. elim (apart_or_in c) [
        | inl here ↦ in_strip r c here.0 here.1 inside ∙ none_below r c (omega (arith, past, as_columns))
        | inr apart ↦ elsewhere r c apart inside ∙ turned.clean.tail c r past inside
      ];
    };
    fits = turned.fits;
  }

  turned_enough : turned_columns ≤ width * w
  turned_enough = enough pos turned turned_is

  pub strip_bits : (r c : ℕ) → k * w ≤ c → c < (k + 1) * w → has_at (matrix_in w width turned_rows turned_columns (map number zs)) c r ≡ has_at m r c
  strip_bits r c from below = elim (cases_lt r rows) [
    | inl inside ↦ has_at-below w width turned_columns turned_rows (map number zs) c r (omega (arith, below, whole, as_rows))
        (omega (arith, inside, as_columns)) ∙ in_strip r c from below (omega (arith, inside, turned_enough, as_columns))
        ∙ sym (has_at-below w stride columns rows (map number xs) r c inside (omega (arith, below, whole)))
        ∙ ap (λ s. has_at s r c) is
    | inr past ↦ has_at-past w width turned_columns turned_rows (map number zs) c r (omega (arith, past, as_columns))
        ∙ sym (ap (λ s. has_at s r c) (sym is) ∙ ap (λ row. has row c) (row_of-past w stride columns rows (map number xs) r past))
  ]

  pub other_bits : (r c : ℕ) → (c < k * w) ⊎ ((k + 1) * w ≤ c) → has_at (matrix_in w width turned_rows turned_columns (map number zs)) c r ≡ has_at t c r
  other_bits r c apart = elim (cases_lt c turned_rows) [
    | inl row ↦ elim (cases_lt r turned_columns) [
      | inl inside ↦ has_at-below w width turned_columns turned_rows (map number zs) c r row inside
          ∙ elsewhere r c apart (omega (arith, inside, turned_enough))
          ∙ sym (has_at-below w width turned_columns turned_rows (map number ys) c r row inside)
          ∙ ap (λ s. has_at s c r) turned_is
      | inr past ↦ has_at-past w width turned_columns turned_rows (map number zs) c r past
          ∙ sym (ap (λ s. has_at s c r) (sym turned_is) ∙ has_at-past w width turned_columns turned_rows (map number ys) c r past)
    ]
    | inr beyond ↦ ap (λ row. has row r) (row_of-past w width turned_columns turned_rows (map number zs) c beyond)
        ∙ sym (ap (λ s. has_at s c r) (sym turned_is)
        ∙ ap (λ row. has row r) (row_of-past w width turned_columns turned_rows (map number ys) c beyond))
  ]
