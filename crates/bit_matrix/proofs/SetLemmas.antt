-- A set put into a row, and a row made a set.
use Rattle.std.proofs.Common.{◌≡◌, ◌≢◌, ℕ, ◌+◌, ◌-◌, ◌*◌, ◌/◌, ◌%◌, ◌<◌, ◌≤◌, ◌==◌, ◌↔◌, Bool, true, false, ◌&&◌, ◌||◌}
use Rattle.std.proofs.Common.{if◌then◌else◌, min, nat_lt, List, [], All, length, map, get_or, take, replicate, sym, ap, ap₂}
use Rattle.std.proofs.{Common.{◌∙◌, arith, inl, inr, mod-lt}, lemmas.List.{length-map, length-replicate}}
use Rattle.std.proofs.lemmas.{Bool.{cases_eq, cases_lt, Decides.nat_tests}, Nat.{div-add-mod', div_below, mul-le}}
use Rattle.std.proofs.lemmas.List.{ext_get_or, get_or-replicate, get_or-set_other, get_or-set_same, get_or-take, get_or_past}
use Rattle.bit_blocks.specs.{Bits.{blocks_for, blocks_of}, Digits.is_one, Storage.value_at, declared.block.merge.Merge.TheVariants.Union}
use Rattle.bit_words.specs.Kept.{KeepsInBlock}
use Rattle.bit_blocks.proofs.{BitsLemmas.{block_past, blocks_for-below, blocks_of-digit, length-blocks_of, read_back}, StorageLemmas.value_at-index}
use Rattle.bit_set.specs.{Sets.{elements, has, union}}
use Rattle.bit_set.proofs.{AlgebraLemmas.{has-union}, SetLaws.{IsAscending-put_all}, SetLemmas.{IsAscending-elements, has-elements, same_members}}
use Rattle.bit_matrix.specs.{Matrices.{Matrix, has_at, matrix_of, row_of, with_row}, Merges.{IsMergedPart}, Tables.{IsCleanPast, IsTable, bit_of, matrix_in}}
use Rattle.bit_matrix.proofs.{MergeLemmas.other_row, RowLemmas.{bit_of-digit, map-slice}, SeenLemmas.{enough, none_past, seen_columns, seen_matrix, seen_rows}, TableLemmas.{becomes, has_at-below}}

-- the values of a list's block
block_value : (w : ℕ) (values : List Bool) (c : ℕ) → 0 < w → is_one (get_or (blocks_of w values) (c / w) 0) (c % w) ≡ get_or values c false
block_value w values c pos =
    ap (λ d. d == 1) (blocks_of-digit w (c / w) (c % w) values (mod-lt c pos)) ∙ read_back (get_or values (c / w * w + c % w) false) ∙ ap (λ i. get_or values i false) (div-add-mod' c w)

-- each block of the row became its union with that of the set
set_bits : {X : Type 0} (number : X → ℕ) (w stride count q : ℕ) (ms ns : List ℕ) (blocks others : List X)
    (values : List Bool) → 0 < w → map number blocks ≡ blocks_of w values → count ≡ min (length blocks) stride
    → others ≡ take count blocks → length others ≡ count
    → IsMergedPart Union w 0 (q * stride) (length others) ms (map number others) ns → (c : ℕ) → c < stride * w → bit_of w stride ns q c ≡ (bit_of w stride ms q c || get_or values c false)
set_bits number w stride count q ms ns blocks others values pos is least some long merged c below =
    let block = div_below c w stride pos below in
    let inside = mod-lt c pos in
    let was = bit_of-digit w stride ms q c pos in
    bit_of-digit w stride ns q c pos ∙ elim (cases_lt (c / w) count) [
      | inl within ↦
          let other : get_or (map number others) (0 + c / w) 0 ≡ get_or (blocks_of w values) (c / w) 0 =
          ap (λ k. get_or (map number others) k 0) (let e : 0 + c / w ≡ c / w = omega arith in e)
          ∙ ap (λ xs. get_or (map number xs) (c / w) 0) some ∙ ap (λ xs. get_or xs (c / w) 0) (map-slice number 0 count blocks)
          ∙ get_or-take count (map number blocks) (c / w) 0 within ∙ ap (λ xs. get_or xs (c / w) 0) is in
          merged.digit (c / w) (c % w) (omega (arith, long, within)) inside ∙ ap₂ (λ a b. a || b) (sym was) (ap (λ n. is_one n (c % w)) other ∙ block_value w values c pos)
      | inr beyond ↦
          let all : blocks_for w (length values) ≤ c / w = omega (arith, least, block, beyond, length-map blocks number, ap length is, length-blocks_of w values) in
          let none : get_or values c false ≡ false = get_or_past values c false (blocks_for-below w (length values) c pos all) in
          ap (λ n. is_one n (c % w)) (merged.others (q * stride + c / w) (λ k early e. omega (arith, early, e, long, beyond))) ∙ sym was ∙ (let b = none in grind arith)
    ]

module _ {X : Type 0} {w : ℕ} {number : X → ℕ} {is_block : X → Type 0} {xs : List X}
    {rows columns stride : ℕ} {m : Matrix} (pos : 0 < w) (table : IsTable w number is_block xs rows columns stride)
    (is : matrix_in w stride rows columns (map number xs) ≡ m)
    (ys blocks others : List X) (values : List Bool) (count q : ℕ) (row : q < length m.rows)
    (same : map number blocks ≡ blocks_of w values) (least : count ≡ min (length blocks) stride)
    (some : others ≡ take count blocks) (long : length others ≡ count)
    (below : (n : ℕ) → has (elements values) n ≡ true → n < m.columns)
    (merged : IsMergedPart Union w 0 (q * stride) (length others) (map number xs) (map number others) (map number ys)) where
  bits_now : (c : ℕ) → c < stride * w → bit_of w stride (map number ys) q c ≡ (bit_of w stride (map number xs) q c || has (elements values) c)
  bits_now c inside =
      set_bits number w stride count q (map number xs)
      (map number ys) blocks others values pos same least some long merged c inside
      ∙ ap (λ b. bit_of w stride (map number xs) q c || b) (sym (has-elements values c))

  none_of_set : (c : ℕ) → columns ≤ c → has (elements values) c ≡ false
  none_of_set c past = let known = below c in let are = seen_columns pos table is in grind (arith, nat_tests)

  others_stay : (p c : ℕ) → p ≢ q → c < stride * w → bit_of w stride (map number ys) p c ≡ bit_of w stride (map number xs) p c
  others_stay = other_row w stride pos Union 0 (length others) q (map number xs) (map number others) (map number ys) merged (omega (arith, long, least))

  set_clean : IsCleanPast w stride columns (map number ys)
  set_clean = record {
    tail = λ p c past inside. elim (cases_eq p q) [
      | inl here ↦ ap (λ k. bit_of w stride (map number ys) k c) here ∙ bits_now c inside ∙ (let a = table.clean.tail q c past inside in let b = none_of_set c past in grind arith)
      | inr other ↦ others_stay p c other inside ∙ table.clean.tail p c past inside
    ];
  }

  pub set_table : All is_block ys → length ys ≡ length xs → IsTable w number is_block ys rows columns stride
  set_table each as_many = record { each = each; in_row = table.in_row; count = as_many ∙ table.count; clean = set_clean; fits = table.fits }

  pub becomes_united : matrix_in w stride rows columns (map number ys) ≡ with_row m q (union (row_of m q) (elements values))
  becomes_united =
      let within : q < rows = omega (arith, row, seen_rows pos table is) in
      let matrix = seen_matrix pos table is in
      becomes w stride columns rows (map number xs) (map number ys) q (union (row_of m q) (elements values)) within (IsAscending-put_all (row_of m q) (elements values) (matrix.ascends q))
      (λ c inside. bits_now c (omega (arith, inside, enough pos table is))
      ∙ ap (λ b. b || has (elements values) c) (sym (has_at-below w stride columns rows (map number xs) q c within inside)
      ∙ ap (λ s. has_at s q c) is) ∙ sym (has-union (row_of m q) (elements values) c))
      (λ c past. has-union (row_of m q) (elements values) c ∙ (let a = none_past m matrix q c (omega (arith, past, seen_columns pos table is)) in let b = none_of_set c past in grind arith))
      (λ p c other inside. others_stay p c other (omega (arith, inside, enough pos table is)))
      ∙ ap (λ s. with_row s q (union (row_of m q) (elements values))) is

  -- the blocks that are merged stay just where all of the row do
  pub stays_at_all : (stays : Type 0) → (stays ↔ ((k : ℕ) → k < length others
      → get_or (map number ys) (q * stride + k) 0 ≡ get_or (map number xs) (q * stride + k) 0))
      → stays ↔ ((k : ℕ) → k < stride → get_or (map number ys) (q * stride + k) 0 ≡ get_or (map number xs) (q * stride + k) 0)
  stays_at_all stays tells = (
    λ yes k inside. elim (cases_lt k (length others)) [
      | inl early ↦ tells.0 yes k early
      | inr late ↦ merged.others (q * stride + k) (λ i early e. omega (arith, early, e, late))
    ],
    λ all. tells.1 (λ k early. all k (omega (arith, early, long, least))),
  )

-- ---- rows made of a set

pub none_with_set : (values : List Bool) → union [] (elements values) ≡ elements values
none_with_set values = same_members _ _ (IsAscending-put_all [] (elements values) tt) (IsAscending-elements values) (λ c. has-union [] (elements values) c)

pub row_united : (m n : Matrix) (rows r : ℕ) (values : List Bool) → r < rows → length m.rows ≡ rows
    → n ≡ with_row m r (union (row_of m r) (elements values))
    → ((q : ℕ) → q < rows → row_of m q ≡ (if nat_lt q r then elements values else [])) → (q : ℕ) → q < rows
    → row_of n q ≡ (if nat_lt q (r + 1) then elements values else [])
row_united m n rows r values within long is before q inside = ap (λ s. row_of s q) is ∙ elim (cases_eq q r) [
  | inl here ↦
      let none : row_of m r ≡ [] = before r within ∙ (let e : nat_lt r r ≡ false = grind (arith, nat_tests) in ap (λ b. if b then elements values else []) e) in
      let yes : nat_lt q (r + 1) ≡ true = grind (arith, nat_tests) in
      ap (λ k. row_of (with_row m r (union (row_of m r) (elements values))) k) here
      ∙ get_or-set_same m.rows r (union (row_of m r) (elements values)) [] (omega (arith, within, long))
      ∙ ap (λ s. union s (elements values)) none ∙ none_with_set values ∙ ap (λ b. if b then elements values else []) (sym yes)
  | inr other ↦
      let same : nat_lt q r ≡ nat_lt q (r + 1) = grind (arith, nat_tests) in
      get_or-set_other m.rows r q (union (row_of m r) (elements values)) [] other ∙ before q inside ∙ ap (λ b. if b then elements values else []) same
]

pub all_rows : (m : Matrix) (rows columns : ℕ) (xs : List ℕ) → length m.rows ≡ rows → m.columns ≡ columns → ((q : ℕ) → q < rows → row_of m q ≡ xs) → m ≡ matrix_of rows columns xs
all_rows m rows columns xs long wide each =
    ap₂ (λ (xss : List (List ℕ)) (n : ℕ). let s : Matrix = record { rows = xss; columns = n } in s)
    (ext_get_or [] m.rows (replicate rows xs) (long ∙ sym (length-replicate rows xs))
    (λ q inside. let within : q < rows = omega (arith, inside, long) in
    each q within ∙ sym (get_or-replicate rows q xs [] within))) wide

-- ---- a set made of a row

pub kept_more : (w k n : ℕ) (ms : List ℕ) (old new : List Bool) (m : ℕ) → 0 < w → KeepsInBlock w k m old new
    → m ≡ get_or ms k 0 → ((i : ℕ) → i < n → i < k * w → get_or old i false ≡ value_at w ms i)
    → ((i : ℕ) → i < n → k * w ≤ i → get_or old i false ≡ true) → (i : ℕ) → i < n → i < (k + 1) * w
    → get_or new i false ≡ value_at w ms i
kept_more w k n ms old new m pos keeps is kept ones i within below = elim (cases_lt i (k * w)) [
  | inl before ↦ keeps.others i (λ e. let block = div_below i w k pos before in omega (arith, block, e)) ∙ kept i within before
  | inr from ↦
      let j = i - k * w in
      let inside : j < w = omega (arith, from, below) in
      let here : k * w + j ≡ i = omega (arith, from) in
      ap (λ n. get_or new n false) (sym here) ∙ keeps.inside j inside
      ∙ ap (λ b. b && is_one m j) (ap (λ n. get_or old n false) here ∙ ones i within from) ∙ ap (λ n. is_one n j) is
      ∙ sym (value_at-index w ms k j inside) ∙ ap (value_at w ms) here
]

pub ones_left : (w k n : ℕ) (old new : List Bool) (m : ℕ) → 0 < w → KeepsInBlock w k m old new
    → ((i : ℕ) → i < n → k * w ≤ i → get_or old i false ≡ true) → (i : ℕ) → i < n → (k + 1) * w ≤ i → get_or new i false ≡ true
ones_left w k n old new m pos keeps ones i within past = keeps.others i (λ e. let block = block_past w (k + 1) i pos past in omega (arith, block, e)) ∙ ones i within (omega (arith, past))

-- no blocks where there are no bits
pub no_blocks : (w rows stride : ℕ) → 0 < w → rows * (stride * w) ≡ 0 → rows * stride ≡ 0
no_blocks w rows stride pos none = let more = mul-le (rows * stride) 1 (rows * stride) w (omega arith) pos in omega (arith, more, none)
