-- What blocks hold whose bits move up or down.
use Rattle.std.proofs.Common.{⊎_elim, ◌≡◌, ◌≢◌, ℕ, ◌+◌, ◌-◌, ◌*◌, ◌/◌, ◌%◌, ◌<◌, ◌≤◌, ◌&&◌, nat_le, nat_lt, List, map}
use Rattle.std.proofs.Common.{length, get_or, set, All, sym, ap, ◌∙◌, subst, arith, inl, inr, div-add-mod', mod-lt}
use Rattle.std.proofs.Common.{get_or-set_same, get_or-set_other}
use Rattle.std.proofs.lemmas.{Bool.{Decides.nat_tests, cases_eq, cases_lt}, Nat.div-mul-add}
use Rattle.bit_blocks.specs.{Bits.blocks_for, Digits.{IsEither, IsShiftedLeft, IsShiftedRight, is_one}, Shifts.{IsMovedDown, IsMovedUp}, Storage.{value_at, IsPacked}}
use Rattle.bit_blocks.proofs.{BitsLemmas.{block_past, blocks_for-above}, ChangeLemmas.div_le, Masks.is_one-either, StorageLemmas.{value_at-index, value_at-is, value_at-past}}

-- ---- one block

-- where it is made of two: w - low of the digits of block k, and low of those of the next
joined_low : (w : ℕ) (ms : List ℕ) (k low j a b r : ℕ) → low + j < w → IsShiftedRight w (get_or ms k 0) low a
    → IsShiftedLeft w (get_or ms (k + 1) 0) (w - low) b → IsEither w a b r → is_one r j ≡ value_at w ms (k * w + (low + j))
joined_low w ms k low j a b r within right left either =
    let digit = is_one-either w a b r j either (omega arith) in
    let moved = right.moved j (omega arith) in
    let zero = left.zeros j (omega arith) in
    let same = ap (λ n. is_one (get_or ms k 0) n) (let e : j + low ≡ low + j = omega arith in e) in
    let at = value_at-index w ms k (low + j) within in
    grind arith

joined_high : (w : ℕ) (ms : List ℕ) (k low j a b r : ℕ) → low < w → j < w → w ≤ low + j
    → IsShiftedRight w (get_or ms k 0) low a → IsShiftedLeft w (get_or ms (k + 1) 0) (w - low) b → IsEither w a b r
    → is_one r j ≡ value_at w ms (k * w + (low + j))
joined_high w ms k low j a b r small within past right left either =
    let digit = is_one-either w a b r j either within in
    let zero = right.zeros j within (omega arith) in
    let place : (low + j - w) + (w - low) ≡ j = omega arith in
    let moved = left.moved (low + j - w) (omega arith) in
    let same = ap (λ n. is_one b n) place in
    let at = value_at-index w ms (k + 1) (low + j - w) (omega arith) in
    let index = ap (value_at w ms) (let e : (k + 1) * w + (low + j - w) ≡ k * w + (low + j) = omega arith in e) in
    grind arith

pub joined : (w : ℕ) (ms : List ℕ) (k low j a b r : ℕ) → low < w → j < w → IsShiftedRight w (get_or ms k 0) low a
    → IsShiftedLeft w (get_or ms (k + 1) 0) (w - low) b → IsEither w a b r → is_one r j ≡ value_at w ms (k * w + (low + j))
joined w ms k low j a b r small within right left either =
    ⊎_elim
    (λ (below : low + j < w). joined_low w ms k low j a b r below right left either)
    (λ (past : w ≤ low + j). joined_high w ms k low j a b r small within past right left either)
    (cases_lt (low + j) w)

-- where it begins below the list, by less than a block
pub moved_first : (w : ℕ) (ms : List ℕ) (k d p m n : ℕ) → k * w < d → p ≡ d - k * w → p < w → n ≡ get_or ms 0 0 → IsShiftedLeft w n p m → IsMovedUp w ms d k m
moved_first w ms k d p m n before bit small read left j within =
    ⊎_elim
    (λ (below : j < p). let zero = left.zeros j below in grind (arith, nat_tests))
    (λ (past : p ≤ j).
    let moved = left.moved (j - p) (omega arith) in
    let same = ap (λ i. is_one m i) (let e : (j - p) + p ≡ j = omega arith in e) in
    let first = ap (λ x. is_one x (j - p)) read in
    let at = value_at-index w ms 0 (j - p) (omega arith) in
    let index = ap (value_at w ms) (let e : 0 * w + (j - p) ≡ k * w + j - d = omega arith in e) in
    grind (arith, nat_tests))
    (cases_lt j p)

pub moved_from : (w : ℕ) (ms : List ℕ) (k d q p m : ℕ) → q ≡ d / w → p ≡ d % w → ((j : ℕ) → j < w → is_one m j ≡ value_at w ms ((k + q) * w + (p + j))) → IsMovedDown w ms d k m
moved_from w ms k d q p m block bit digits j within =
    let parts = div-add-mod' d w in
    let product = ap (λ n. n * w) block in
    digits j within ∙ ap (value_at w ms) (let e : (k + q) * w + (p + j) ≡ k * w + j + d = omega (arith, parts, product) in e)

-- ---- one after another

same_value : (w : ℕ) (ms ns : List ℕ) (i : ℕ) → get_or ns (i / w) 0 ≡ get_or ms (i / w) 0 → value_at w ns i ≡ value_at w ms i
same_value w ms ns i same = value_at-is w ns i ∙ ap (λ m. is_one m (i % w)) same ∙ sym (value_at-is w ms i)

-- no block up to the one that is made was written, or none from it on
pub read_up : (w : ℕ) (ms ns : List ℕ) (d k m : ℕ) → 0 < w → ((q : ℕ) → q ≤ k → get_or ns q 0 ≡ get_or ms q 0) → IsMovedUp w ns d k m → IsMovedUp w ms d k m
read_up w ms ns d k m pos unwritten moved j within =
    let block = div_le w (k * w + j - d) (k * w + j) pos (omega arith) in
    let own = div-mul-add k w j within in
    let same = same_value w ms ns (k * w + j - d) (unwritten _ (omega (arith, block, own))) in
    moved j within ∙ ap (λ b. nat_le d (k * w + j) && b) same

pub read_down : (w : ℕ) (ms ns : List ℕ) (d k m : ℕ) → 0 < w → ((q : ℕ) → k ≤ q → get_or ns q 0 ≡ get_or ms q 0) → IsMovedDown w ns d k m → IsMovedDown w ms d k m
read_down w ms ns d k m pos unwritten moved j within =
    moved j within ∙ same_value w ms ns (k * w + j + d) (unwritten _ (block_past w k (k * w + j + d) pos (omega arith)))

pub put_other : (ms ns : List ℕ) (k m q : ℕ) → ns ≡ set ms k m → q ≢ k → get_or ns q 0 ≡ get_or ms q 0
put_other ms ns k m q put other = ap (λ xs. get_or xs q 0) put ∙ get_or-set_other ms k q m 0 other

-- what holds of the block that is put in, and of others before
pub put_holds : (P : ℕ → ℕ → Type 0) (ms ns : List ℕ) (k m q : ℕ) → ns ≡ set ms k m → k < length ms → P k m → (q ≢ k → P q (get_or ms q 0)) → P q (get_or ns q 0)
put_holds P ms ns k m q put within new old = elim (cases_eq q k) [
  | inl same ↦
      let is : m ≡ get_or ns q 0 = sym (ap (λ xs. get_or xs q 0) put ∙ ap (λ i. get_or (set ms k m) i 0) same ∙ get_or-set_same ms k m 0 within) in
      subst (P q) is (subst (λ i. P i m) (sym same) new)
  | inr other ↦ subst (P q) (sym (put_other ms ns k m q put other)) (old other)
]

-- ---- the list

pub value_up : (w : ℕ) (ms ns us : List ℕ) (len d i : ℕ) → 0 < w
    → ((k : ℕ) → k < blocks_for w len → IsMovedUp w ms d k (get_or ns k 0))
    → value_at w us i ≡ (nat_lt i len && value_at w ns i)
    → value_at w us i ≡ (nat_lt i len && (nat_le d i && value_at w ms (i - d)))
value_up w ms ns us len d i pos moved cut =
    let digit = λ (below : i < len). moved (i / w) (blocks_for-above w len i pos below) (i % w) (mod-lt i pos) in
    let is = value_at-is w ns i in
    let index = div-add-mod' i w in
    grind (arith, nat_tests)

pub value_down : (w : ℕ) (ms ns : List ℕ) (count d i : ℕ) → 0 < w → length ms ≡ count → length ns ≡ count
    → ((k : ℕ) → k < count → IsMovedDown w ms d k (get_or ns k 0)) → value_at w ns i ≡ value_at w ms (i + d)
value_down w ms ns count d i pos old new moved = ⊎_elim
    (λ (below : i / w < count).
    value_at-is w ns i ∙ moved (i / w) below (i % w) (mod-lt i pos) ∙ ap (λ n. value_at w ms (n + d)) (div-add-mod' i w))
    (λ (past : count ≤ i / w).
    value_at-past w ns i (omega arith) ∙ sym (value_at-past w ms (i + d) (let more = div_le w i (i + d) pos (omega arith) in omega arith)))
    (cases_lt (i / w) count)

pub down_packed : {X : Type 0} (w len d : ℕ) (f : X → ℕ) (P : X → Type 0) (xs ys : List X) → IsPacked w f P xs len → All P ys
    → length ys ≡ length xs → ((i : ℕ) → value_at w (map f ys) i ≡ value_at w (map f xs) (i + d)) → IsPacked w f P ys len
down_packed w len d f P xs ys packed each long values = record {
  each = each;
  count = long ∙ packed.count;
  tail = record { zero_tail = λ i past. values i ∙ packed.tail.zero_tail (i + d) (omega arith) };
  fits = packed.fits;
}
