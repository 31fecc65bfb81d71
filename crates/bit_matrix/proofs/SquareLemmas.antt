-- Squares of bits that are transposed, from one pair of blocks to all of a strip.
use Rattle.std.proofs.Common.{◌≡◌, ◌≢◌, ℕ, ◌+◌, ◌*◌, ◌/◌, ◌%◌, ◌<◌, ◌==◌, Bool, true, false, not, ◌&&◌, ◌||◌, nat_lt, List, length, get_or, set, refl, sym, ap, ap₂, ◌∙◌, arith, inl, inr}
use Rattle.std.proofs.{lemmas.Bool.{cases_eq, Decides.nat_tests}, lemmas.List.{get_or-set_other, get_or-set_same}}
use Rattle.std.proofs.lemmas.Nat.{div-add-mod', div-mul-add, div_below, mod-mul-add, mod_below, row_fits, same_from_place}
use Rattle.std.proofs.Math.Nat.{mul_comm}
use Rattle.bit_blocks.specs.{Digits.{IsBoth, IsComplement, IsEither, IsShiftedLeft, IsShiftedRight, is_one}, Written.WritesBlocks}
use Rattle.bit_blocks.proofs.Masks.{is_one-both, is_one-complement, is_one-either}
use Rattle.bit_matrix.specs.Squares.{AreExchanged, IsExchanged}

pub written_on : {X : Type 0} (P : X → Type 0) (xs ys zs : List X) → WritesBlocks P xs ys → WritesBlocks P ys zs → WritesBlocks P xs zs
written_on P xs ys zs first second = record { each = second.each; len = second.len ∙ first.len }

-- ---- two blocks

taken : (a b : Bool) → ((a && not true) || (b && true)) ≡ b
taken true true = refl
taken true false = refl
taken false true = refl
taken false false = refl

left_there : (a b : Bool) → ((a && not false) || (b && false)) ≡ a
left_there true true = refl
left_there true false = refl
left_there false true = refl
left_there false false = refl

module _ (w d left right m n : ℕ) (raised lowered up down not_right not_left above below p q : ℕ)
    (raises : IsShiftedLeft w n d raised) (ups : IsBoth w raised right up) (lowers : IsShiftedRight w m d lowered) (downs : IsBoth w lowered left down)
    (no_right : IsComplement w right not_right) (uppers : IsBoth w m not_right above) (ps : IsEither w above up p)
    (no_left : IsComplement w left not_left) (lows : IsBoth w n not_left below) (qs : IsEither w below down q) where
  upper_digit : (c : ℕ) → c < w → is_one p c ≡ ((is_one m c && not (is_one right c)) || (is_one raised c && is_one right c))
  upper_digit c inside =
      is_one-either w above up p c ps inside ∙ ap₂ (λ a b. a || b)
      (is_one-both w m not_right above c uppers inside
      ∙ ap (λ b. is_one m c && b) (is_one-complement w right not_right c no_right inside))
      (is_one-both w raised right up c ups inside)

  lower_digit : (c : ℕ) → c < w → is_one q c ≡ ((is_one n c && not (is_one left c)) || (is_one lowered c && is_one left c))
  lower_digit c inside =
      is_one-either w below down q c qs inside ∙ ap₂ (λ a b. a || b)
      (is_one-both w n not_left below c lows inside
      ∙ ap (λ b. is_one n c && b) (is_one-complement w left not_left c no_left inside))
      (is_one-both w lowered left down c downs inside)

  pub exchanged : IsExchanged w d left right m n p q
  exchanged = record {
    up = λ c inside one. upper_digit (c + d) inside ∙ ap (λ r. (is_one m (c + d) && not r) || (is_one raised (c + d) && r)) one ∙ taken _ _ ∙ ap (λ x. x == 1) (raises.moved c inside);
    down = λ c inside one. lower_digit c (omega (arith, inside)) ∙ ap (λ r. (is_one n c && not r) || (is_one lowered c && r)) one ∙ taken _ _ ∙ ap (λ x. x == 1) (lowers.moved c inside);
    upper = λ c inside none. upper_digit c inside ∙ ap (λ r. (is_one m c && not r) || (is_one raised c && r)) none ∙ left_there _ _;
    lower = λ c inside none. lower_digit c inside ∙ ap (λ r. (is_one n c && not r) || (is_one lowered c && r)) none ∙ left_there _ _;
  }

-- ---- two rows

module _ (w d left right upper lower count p q : ℕ) (ms ns os rs : List ℕ) (apart : upper + count < lower)
    (inside : lower + count < length ns) (before : AreExchanged w d left right upper lower count ms ns)
    (one : IsExchanged w d left right (get_or ns (upper + count) 0) (get_or ns (lower + count) 0) p q) (first : os ≡ set ns (upper + count) p) (second : rs ≡ set os (lower + count) q) where
  above_is : get_or rs (upper + count) 0 ≡ p
  above_is =
      ap (λ zs. get_or zs (upper + count) 0) second
      ∙ get_or-set_other os (lower + count) (upper + count) q 0 (λ e. omega (arith, e, apart))
      ∙ ap (λ zs. get_or zs (upper + count) 0) first ∙ get_or-set_same ns (upper + count) p 0 (omega (arith, apart, inside))

  below_is : length os ≡ length ns → get_or rs (lower + count) 0 ≡ q
  below_is long = ap (λ zs. get_or zs (lower + count) 0) second ∙ get_or-set_same os (lower + count) q 0 (omega (arith, inside, long))

  elsewhere : (i : ℕ) → i ≢ upper + count → i ≢ lower + count → get_or rs i 0 ≡ get_or ns i 0
  elsewhere i up low = ap (λ zs. get_or zs i 0) second ∙ get_or-set_other os (lower + count) i q 0 low ∙ ap (λ zs. get_or zs i 0) first ∙ get_or-set_other ns (upper + count) i p 0 up

  above_was : get_or ns (upper + count) 0 ≡ get_or ms (upper + count) 0
  above_was = before.others (upper + count) (inr (omega arith)) (inl (omega (arith, apart)))

  below_was : get_or ns (lower + count) 0 ≡ get_or ms (lower + count) 0
  below_was = before.others (lower + count) (inr (omega (arith, apart))) (inr (omega arith))

  pub exchanged_more : length os ≡ length ns → AreExchanged w d left right upper lower (count + 1) ms rs
  exchanged_more long = record {
    each = λ g below. elim (cases_eq g count) [
      | inl last ↦ rw last (rw (above_is, below_is long, ← above_was, ← below_was) one)
      | inr other ↦ rw (elsewhere (upper + g) (λ e. other (omega (arith, e))) (λ e. omega (arith, e, apart, below)), elsewhere (lower + g) (λ e. omega (arith, e, apart, below)) (λ e. other (omega (arith, e)))) (before.each g (omega (arith, below, other)))
    ];
    others = λ i up low. elsewhere i (λ e. elim up
        [ inl early ↦ omega (arith, early, e) | inr late ↦ omega (arith, late, e) ])
        (λ e. elim low [ inl early ↦ omega (arith, early, e) | inr late ↦ omega (arith, late, e) ])
        ∙ before.others i (elim up [ inl early ↦ inl early | inr late ↦ inr (omega (arith, late)) ]) (elim low [ inl early ↦ inl early | inr late ↦ inr (omega (arith, late)) ]);
  }

-- ---- which columns are in a square

-- one digit more of the block is written
pub digit_put : (w c m r : ℕ) (f : ℕ → Bool) → ((j : ℕ) → j < w → is_one m j ≡ (nat_lt j c && f j)) → c < w
    → is_one r c ≡ f c → ((j : ℕ) → j < w → j ≢ c → is_one r j ≡ is_one m j) → (j : ℕ) → j < w
    → is_one r j ≡ (nat_lt j (c + 1) && f j)
digit_put w c m r f before inside same others j below = elim (cases_eq j c) [
  | inl here ↦ rw here (same ∙ (let yes : nat_lt c (c + 1) ≡ true = grind (arith, nat_tests) in ap (λ b. b && f c) (sym yes)))
  | inr other ↦ others j below other ∙ before j below ∙ (let e : nat_lt j c ≡ nat_lt j (c + 1) = grind (arith, nat_tests) in ap (λ b. b && f j) e)
]

pub none_put : (w c m : ℕ) (f : ℕ → Bool) → ((j : ℕ) → j < w → is_one m j ≡ (nat_lt j c && f j)) → c < w → is_one m c ≡ false
none_put w c m f before inside = before c inside ∙ (let no : nat_lt c c ≡ false = grind (arith, nat_tests) in ap (λ b. b && f c) no)

-- ---- a strip that is loaded

-- one block more is written
module _ (w width stride k row x : ℕ) (ms ns os : List ℕ) (pos : 0 < w) (here : row < w * width)
    (long : length ns ≡ w * width) (is : os ≡ set ns (row % w * width + row / w) x)
    (block : x ≡ get_or ms (row * stride + k) 0) where
  pub place_below : row / w < width
  place_below = div_below row w width pos (rw (mul_comm width w) here)

  pub place_within : row % w * width + row / w < w * width
  place_within = omega (arith, row_fits (row % w) width w width (mod_below row w pos) (omega arith), place_below)

  pub loaded_more : ((i g : ℕ) → i < w → g < width → g * w + i < row
      → get_or ns (i * width + g) 0 ≡ get_or ms ((g * w + i) * stride + k) 0) → (i g : ℕ) → i < w → g < width
      → g * w + i < row + 1 → get_or os (i * width + g) 0 ≡ get_or ms ((g * w + i) * stride + k) 0
  loaded_more before i g inside across below = elim (cases_eq (g * w + i) row) [
    | inl last ↦
        let at_row : i ≡ row % w = sym (mod-mul-add g w i inside) ∙ ap (λ n. n % w) last in
        let at_block : g ≡ row / w = sym (div-mul-add g w i inside) ∙ ap (λ n. n / w) last in
        let index : i * width + g ≡ row % w * width + row / w = ap₂ (λ a b. a * width + b) at_row at_block in
        ap (λ q. get_or os q 0) index ∙ ap (λ zs. get_or zs (row % w * width + row / w) 0) is
        ∙ get_or-set_same ns (row % w * width + row / w) x 0 (omega (arith, place_within, long)) ∙ block
        ∙ ap (λ n. get_or ms (n * stride + k) 0) (sym last)
    | inr other ↦
        let apart = λ (e : i * width + g ≡ row % w * width + row / w). let same =
        same_from_place i g (row % w) (row / w) width across place_below e in
        other (ap₂ (λ a b. b * w + a) same.0 same.1 ∙ div-add-mod' row w) in
        ap (λ zs. get_or zs (i * width + g) 0) is ∙ get_or-set_other ns (row % w * width + row / w) (i * width + g) x 0 apart ∙ before i g inside across (omega (arith, below, other))
  ]
