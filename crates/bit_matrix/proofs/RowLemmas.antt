-- A row as a slice of the blocks, and the digits of its blocks.
use Rattle.std.proofs.Common.{◌≡◌, ℕ, zero, suc, ◌+◌, ◌-◌, ◌*◌, ◌/◌, ◌%◌, ◌^◌, ◌<◌, ◌≤◌, Bool, false, ◌&&◌, List, [], ◌∷◌}
use Rattle.std.proofs.Common.{length, map, filter, get_or, take, drop, refl, sym, ap, ◌∙◌, arith, inl, inr, mod-lt, count_by}
use Rattle.std.proofs.lemmas.{Bool.{cases_lt, Decides.nat_tests}, Nat.{div-add-mod', div_below}, Nat.Bits.same_from_bits_below, List.{get_or-drop, get_or-take, length-take, Sums.length-filter}}
use Rattle.std.specs.List.{range_with_len}
use Rattle.bit_blocks.{specs.{Digits.is_one, Storage.value_at}, proofs.BitsLemmas.block_past}
use Rattle.bit_blocks.proofs.StorageLemmas.{same_digit, value_at-index, value_at-is, value_at-past}
use Rattle.bit_set.specs.{Ranges.span, Sets.{IsAscending, has}}
use Rattle.bit_set.proofs.{RangeLemmas.{IsAscending-span, has-span}, SetLemmas.{AscendsFrom-filter, has-filter, same_members}}
use Rattle.bit_matrix.{specs.Tables.{IsCleanPast, bit_of, row_in}, proofs.TableLemmas.has-row_in}

-- the maps of a slice
pub map-slice : {X : Type 0} (f : X → ℕ) (k n : ℕ) (xs : List X) → map f (take n (drop k xs)) ≡ take n (drop k (map f xs))
map-slice f k zero xs = refl
map-slice f zero (suc n) [] = refl
map-slice f zero (suc n) (x ∷ xs) = ap (λ ys. f x ∷ ys) (map-slice f zero n xs)
map-slice f (suc k) (suc n) [] = refl
map-slice f (suc k) (suc n) (x ∷ xs) = map-slice f k (suc n) xs

-- bit c of row r, by its block
pub bit_of-digit : (w stride : ℕ) (ms : List ℕ) (r c : ℕ) → 0 < w → bit_of w stride ms r c ≡ is_one (get_or ms (r * stride + c / w) 0) (c % w)
bit_of-digit w stride ms r c pos =
    let split : r * (stride * w) + c ≡ (r * stride + c / w) * w + c % w = omega (arith, div-add-mod' c w) in
    ap (value_at w ms) split ∙ value_at-index w ms (r * stride + c / w) (c % w) (mod-lt c pos)

-- a bit of the slice
pub slice_bit : (w stride : ℕ) (ms : List ℕ) (r c : ℕ) → 0 < w → c < stride * w → value_at w (take stride (drop (r * stride) ms)) c ≡ bit_of w stride ms r c
slice_bit w stride ms r c pos below =
    value_at-is w (take stride (drop (r * stride) ms)) c
    ∙ ap (λ m. is_one m (c % w)) (get_or-take stride (drop (r * stride) ms) (c / w) 0 (div_below c w stride pos below) ∙ get_or-drop (r * stride) ms (c / w) 0)
    ∙ sym (bit_of-digit w stride ms r c pos)

pub slice_bit-past : (w stride : ℕ) (ms : List ℕ) (r c : ℕ) → 0 < w → stride * w ≤ c → value_at w (take stride (drop (r * stride) ms)) c ≡ false
slice_bit-past w stride ms r c pos past =
    value_at-past w (take stride (drop (r * stride) ms)) c
    (let most : length (take stride (drop (r * stride) ms)) ≤ stride = rw length-take (omega arith) in
    let block : stride ≤ c / w = block_past w stride c pos past in omega (arith, most, block))

-- what the slice has is what the row has
pub slice_members : (w stride columns : ℕ) (ms : List ℕ) (r c : ℕ) → 0 < w → IsCleanPast w stride columns ms
    → columns ≤ stride * w → value_at w (take stride (drop (r * stride) ms)) c ≡ has (row_in w stride columns ms r) c
slice_members w stride columns ms r c pos clean enough =
    let member = has-row_in w stride columns ms r c in
    elim (cases_lt c (stride * w)) [
      | inl within ↦ let bit = slice_bit w stride ms r c pos within in let tail = λ (past : columns ≤ c). clean.tail r c past within in grind (arith, nat_tests)
      | inr beyond ↦ let bit = slice_bit-past w stride ms r c pos beyond in grind (arith, nat_tests)
    ]

-- how many members there are
pub count_members : (f : ℕ → Bool) (n : ℕ) (xs : List ℕ) → IsAscending xs → ((c : ℕ) → f c ≡ has xs c) → ((c : ℕ) → n ≤ c → has xs c ≡ false) → count_by f (range_with_len 0 (n - 0)) ≡ length xs
unfolding span
count_members f n xs up same past =
    let here : filter f (span 0 n) ≡ xs = same_members _ xs (AscendsFrom-filter 0 f (span 0 n) (IsAscending-span 0 n)) up (λ c.
    has-filter f (span 0 n) c ∙ ap (λ b. f c && b) (has-span 0 n c) ∙ elim (cases_lt c n) [
      | inl below ↦ let is = same c in grind (arith, nat_tests)
      | inr beyond ↦ let none = past c beyond in grind (arith, nat_tests)
    ]) in
    sym (length-filter f (range_with_len 0 (n - 0))) ∙ ap length here

-- blocks whose digits are those of a row are the blocks of that row
pub same_block : (w m n : ℕ) → m < 2 ^ w → n < 2 ^ w → ((j : ℕ) → j < w → is_one m j ≡ is_one n j) → m ≡ n
same_block w m n small also same = same_from_bits_below w m n small also (λ j within. same_digit m n j (same j within))
