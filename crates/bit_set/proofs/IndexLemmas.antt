-- The indexes of the ones of blocks: a block of zeros, the lowest one, how many there are, and those of a list of truth
-- values.
use Rattle.std.proofs.Common.{◌≡◌, ℕ, zero, suc, ◌+◌, ◌-◌, ◌*◌, ◌/◌, ◌%◌, ◌^◌, ◌<◌, ◌≤◌, Bool, true, false, cond, eqb, List, [], ◌∷◌, ◌++◌, length, get_or, All, count_ones, refl, sym, ap, ◌∙◌, subst}
use Rattle.std.proofs.Common.{inl, inr, arith, ap₂}
use Rattle.std.proofs.lemmas.{Bool.{cases_lt, Decides.nat_tests}, Nat.Bits.{bit_at-lt, bit_at_above}}
use Rattle.std.proofs.lemmas.List.{append-nil, length-append, get_or_append_left, get_or-append_right, Elements.{All-nil, All-cons}, Sums.{sum_by-cons, sum_by-append}}
use Rattle.std.{proofs.{lemmas.List.FromFn.{length-map-range_with_len, get_or-map-range_with_len}, Math.Nat.{div-add-mod', mod-lt}}, specs.{Int.bit_at, List.{sum_by, range_with_len, count_by}}}
use Rattle.bit_blocks.proofs.{BitsLemmas.{blocks_of-digit, read_back}, OnesLemmas.ones_are_digits, Masks.{is_one-bit, is_one-zero}}
use Rattle.bit_blocks.specs.{Bits.blocks_of, Highest.IsHighest, Lowest.{IsLowest, IsCleared}, Digits.is_one}
use Rattle.set_algebra.proofs.SetLemmas.{AscendsFrom-elements_from, elements-alike, length-elements-le, length-elements_from_both, length-elements}
use Rattle.set_algebra.specs.Sets.{AscendsFrom, elements_from, elements}
use Rattle.bit_set.specs.Indexes.{digits_from, values_in, indexes}

-- digits that are 0 are passed over
zeros_passed : (a w p : ℕ) (bs : List Bool) → elements_from p (digits_from 0 a w ++ bs) ≡ elements_from (p + w) bs
zeros_passed a zero p bs = ap (λ n. elements_from n bs) (let e : p ≡ p + zero = omega arith in e)
zeros_passed a (suc w) p bs = rw (is_one-zero a) (zeros_passed (a + 1) w (p + 1) bs ∙ ap (λ n. elements_from n bs) (let e : p + 1 + w ≡ p + suc w = omega arith in e))

-- digits that are the same
same_digits : (m r a w : ℕ) → ((k : ℕ) → a ≤ k → k < a + w → bit_at r k ≡ bit_at m k) → digits_from r a w ≡ digits_from m a w
same_digits m r a zero same = refl
same_digits m r a (suc w) same = ap₂ ◌∷◌ (ap (λ n. eqb n 1) (same a (omega arith) (omega arith))) (same_digits m r (a + 1) w (λ k low high. same k (omega arith) (omega arith)))

-- the lowest 1 comes first, and then the ones of the digits without it
lowest_from : (m r i a w p : ℕ) (bs : List Bool) → IsLowest m i → IsCleared (a + w) m i r → a ≤ i → i < a + w
    → elements_from p (digits_from m a w ++ bs) ≡ (p + (i - a)) ∷ elements_from p (digits_from r a w ++ bs)
lowest_from m r i a zero p bs low cleared from within = absurd (omega arith)
lowest_from m r i a (suc w) p bs low cleared from within =
    elim (cases_lt a i) [
      | inl below ↦
          let none : is_one m a ≡ false = is_one-bit 0 m a (low.zeros a below) in
          let none_there : is_one r a ≡ false = is_one-bit 0 r a (cleared.kept a (omega arith) (λ e. omega (arith, e)) ∙ low.zeros a below) in
          let along : a + suc w ≡ a + 1 + w = omega arith in
          let index : p + (i - a) ≡ p + 1 + (i - (a + 1)) = omega arith in
          rw (none, none_there, index) (lowest_from m r i (a + 1) w (p + 1) bs low (subst (λ x. IsCleared x m i r) along cleared) (omega arith) (omega arith))
      | inr past ↦
          let here : i ≡ a = omega arith in
          let one = is_one-bit 1 m a (ap (bit_at m) (sym here) ∙ low.one) in
          let none = is_one-bit 0 r a (ap (bit_at r) (sym here) ∙ cleared.cleared) in
          let index : p + (i - a) ≡ p = omega arith in
          rw (one, none, same_digits m r (a + 1) w (λ k from_next inside. cleared.kept k (omega arith) (λ e. omega (arith, e))), index) refl
    ]

-- ---- a block and what is past it

pub indexes-zero : (w p : ℕ) (bs : List Bool) → indexes w p 0 bs ≡ elements_from (p + w) bs
unfolding indexes
indexes-zero w p bs = zeros_passed 0 w p bs

-- of a block of zeros, with nothing past it
pub indexes-none : (w p m : ℕ) → m ≡ 0 → indexes w p m [] ≡ []
indexes-none w p m none = ap (λ k. indexes w p k []) none ∙ indexes-zero w p []

-- the values past the first block are those of the next one
pub indexes-next : (w p m : ℕ) (bs cs : List Bool) → bs ≡ digits_from m 0 w ++ cs → elements_from p bs ≡ indexes w p m cs
unfolding indexes
indexes-next w p m bs cs is = ap (elements_from p) is

-- they ascend from there on
pub AscendsFrom-indexes : (w p m : ℕ) (bs : List Bool) → AscendsFrom p (indexes w p m bs)
unfolding indexes
AscendsFrom-indexes w p m bs = AscendsFrom-elements_from p (digits_from m 0 w ++ bs)

pub indexes-lowest : (w p m r i : ℕ) (bs : List Bool) → IsLowest m i → i < w → IsCleared w m i r → indexes w p m bs ≡ (p + i) ∷ indexes w p r bs
unfolding indexes
indexes-lowest w p m r i bs low within cleared =
    let whole : 0 + w ≡ w = omega arith in
    lowest_from m r i 0 w p bs low (subst (λ x. IsCleared x m i r) (sym whole) cleared) (omega arith) (omega arith)
    ∙ ap (λ x. x ∷ elements_from p (digits_from r 0 w ++ bs)) (let e : p + (i - 0) ≡ p + i = omega arith in e)

-- ---- the highest 1 of a block alone

none_from : (m a w p : ℕ) → ((k : ℕ) → a ≤ k → bit_at m k ≡ 0) → elements_from p (digits_from m a w ++ []) ≡ []
none_from m a zero p none = refl
none_from m a (suc w) p none = rw (is_one-bit 0 m a (none a (omega arith))) (none_from m (a + 1) w (p + 1) (λ k from. none k (omega (arith, from))))

-- it comes last, after the ones of the digits without it
highest_from : (m r i a w p : ℕ) → IsHighest m i → IsCleared (a + w) m i r → ((k : ℕ) → i ≤ k → bit_at r k ≡ 0) → a ≤ i
    → i < a + w → elements_from p (digits_from m a w ++ []) ≡ elements_from p (digits_from r a w ++ []) ++ (p + (i - a)) ∷ []
highest_from m r i a zero p high cleared none from within = absurd (omega arith)
highest_from m r i a (suc w) p high cleared none from within =
    elim (cases_lt a i) [
      | inl below ↦
          let same : is_one m a ≡ is_one r a = ap (λ d. eqb d 1) (sym (cleared.kept a (omega arith) (λ e. omega (arith, e)))) in
          let along : a + suc w ≡ a + 1 + w = omega arith in
          let index : p + (i - a) ≡ p + 1 + (i - (a + 1)) = omega arith in
          let rest = highest_from m r i (a + 1) w (p + 1) high (subst (λ x. IsCleared x m i r) along cleared) none (omega arith) (omega arith) in
          rw (same, index, rest) (grind arith)
      | inr past ↦
          let here : i ≡ a = omega arith in
          let one = is_one-bit 1 m a (ap (bit_at m) (sym here) ∙ high.one) in
          let zero_here = is_one-bit 0 r a (none a (omega (arith, here))) in
          let index : p + (i - a) ≡ p = omega arith in
          rw (
            one,
            zero_here,
            index,
            none_from m (a + 1) w (p + 1) (λ k after. high.zeros k (omega (arith, after, here))),
            none_from r (a + 1) w (p + 1) (λ k after. none k (omega (arith, after, here))),
          ) refl
    ]

-- what the digits without it have above it
cleared_above : (w m r i : ℕ) → IsHighest m i → IsCleared w m i r → r < 2 ^ w → (k : ℕ) → i ≤ k → bit_at r k ≡ 0
cleared_above w m r i high cleared small k from = grind (arith, cleared.cleared, cleared.kept k, high.zeros k, bit_at_above r w k small)

pub indexes-highest : (w p m r i : ℕ) → IsHighest m i → i < w → IsCleared w m i r → r < 2 ^ w → indexes w p m [] ≡ indexes w p r [] ++ (p + i) ∷ []
unfolding indexes
indexes-highest w p m r i high within cleared small =
    let whole : 0 + w ≡ w = omega arith in
    highest_from m r i 0 w p high (subst (λ x. IsCleared x m i r) (sym whole) cleared) (cleared_above w m r i high cleared small) (omega arith) (omega arith)
    ∙ ap (λ x. elements_from p (digits_from r 0 w ++ []) ++ x ∷ []) (let e : p + (i - 0) ≡ p + i = omega arith in e)

-- ---- a block and what is past it, apart

elements_from-append : (p : ℕ) (xs ys : List Bool) → elements_from p (xs ++ ys) ≡ elements_from p xs ++ elements_from (p + length xs) ys
elements_from-append p [] ys = ap (λ n. elements_from n ys) (let e : p ≡ p + 0 = omega arith in e)
elements_from-append p (x ∷ xs) ys =
    let rest = elements_from-append (p + 1) xs ys in
    let e : p + 1 + length xs ≡ p + suc (length xs) = omega arith in
    rw (rest, e) (grind arith)

pub indexes-apart : (w p m : ℕ) (bs : List Bool) → indexes w p m bs ≡ indexes w p m [] ++ elements_from (p + w) bs
unfolding indexes
indexes-apart w p m bs =
    elements_from-append p (digits_from m 0 w) bs
    ∙ ap₂ (λ xs n. elements_from p xs ++ elements_from (p + n) bs) (sym (append-nil (digits_from m 0 w))) (length-map-range_with_len (is_one m) 0 w)

-- ---- those of a list of truth values

pub value_in : (w : ℕ) (ms : List ℕ) (q j : ℕ) → j < w → get_or (values_in w ms) (q * w + j) false ≡ is_one (get_or ms q 0) j
value_in w [] q j within = sym (is_one-zero j)
value_in w (m ∷ ms) zero j within =
    ap (λ k. get_or (digits_from m 0 w ++ values_in w ms) k false) (let e : zero * w + j ≡ j = omega arith in e)
    ∙ get_or_append_left (digits_from m 0 w) (values_in w ms) false j (rw length-map-range_with_len within)
    ∙ get_or-map-range_with_len (is_one m) 0 w j j false within (omega arith)
value_in w (m ∷ ms) (suc q) j within =
    let long : length (digits_from m 0 w) ≡ w = length-map-range_with_len (is_one m) 0 w in
    get_or-append_right (digits_from m 0 w) (values_in w ms) w (suc q * w + j) false long (omega arith)
    ∙ ap (λ k. get_or (values_in w ms) k false) (let e : suc q * w + j - w ≡ q * w + j = omega arith in e)
    ∙ value_in w ms q j within

-- the blocks of a list hold the list, and false past its end
pub values_in-blocks_of : (w : ℕ) (values : List Bool) → 0 < w → (k : ℕ) → get_or (values_in w (blocks_of w values)) k false ≡ get_or values k false
values_in-blocks_of w values pos k =
    let split : k ≡ k / w * w + k % w = sym (div-add-mod' k w) in
    let within : k % w < w = mod-lt k pos in
    ap (λ x. get_or (values_in w (blocks_of w values)) x false) split
    ∙ value_in w (blocks_of w values) (k / w) (k % w) within
    ∙ ap (λ d. eqb d 1) (blocks_of-digit w (k / w) (k % w) values within)
    ∙ read_back (get_or values (k / w * w + k % w) false)
    ∙ ap (λ x. get_or values x false) (sym split)

pub elements-blocks_of : (w : ℕ) (values : List Bool) → 0 < w → elements (values_in w (blocks_of w values)) ≡ elements values
elements-blocks_of w values pos = elements-alike values (values_in w (blocks_of w values)) (values_in-blocks_of w values pos)

-- ---- how many there are

digit_counts : (d : ℕ) → d < 2 → cond (eqb d 1) 1 0 ≡ d
digit_counts d small = grind (arith, nat_tests)

count_digits : (m a w : ℕ) → count_by (λ b. b) (digits_from m a w) ≡ sum_by (bit_at m) (range_with_len a w)
count_digits m a zero = refl
count_digits m a (suc w) =
    omega (
      arith,
      count_digits m (a + 1) w,
      digit_counts (bit_at m a) (bit_at-lt m a),
      sum_by-cons (λ b. cond b 1 0) (is_one m a) (digits_from m (a + 1) w),
      sum_by-cons (bit_at m) a (range_with_len (a + 1) w),
    )

pub length-digits_from : (m w : ℕ) (bs : List Bool) → length (digits_from m 0 w ++ bs) ≡ w + length bs
length-digits_from m w bs = let first = length-map-range_with_len (is_one m) 0 w in omega (arith, length-append (digits_from m 0 w) bs, first)

-- as many as the ones of the block and the true values past it
pub length-indexes : (w p m : ℕ) (bs : List Bool) → m < 2 ^ w → length (indexes w p m bs) ≡ count_ones m + length (elements bs)
unfolding indexes
length-indexes w p m bs small =
    let all = digits_from m 0 w ++ bs in
    omega (arith, length-elements_from_both p 0 all, length-elements all, sum_by-append (λ b. cond b 1 0) (digits_from m 0 w) bs, count_digits m 0 w, ones_are_digits w m small, length-elements bs)

pub length-values_in : (w : ℕ) (ms : List ℕ) → length (values_in w ms) ≡ length ms * w
length-values_in w [] = omega arith
length-values_in w (m ∷ ms) = let rest = length-values_in w ms in length-digits_from m w (values_in w ms) ∙ omega (arith, rest)

-- no more than digits
pub length-indexes-le : (w p m : ℕ) (bs : List Bool) → length (indexes w p m bs) ≤ w + length bs
unfolding indexes
length-indexes-le w p m bs = omega (arith, length-elements-le p (digits_from m 0 w ++ bs), length-digits_from m w bs)

-- ---- what the elements of a list of truth values are below

elements_from-below : (p bound : ℕ) (bs : List Bool) → p + length bs ≤ bound → All (λ n. n < bound) (elements_from p bs)
elements_from-below p bound [] fits = All-nil (λ n. n < bound)
elements_from-below p bound (true ∷ bs) fits = All-cons (λ n. n < bound) p _ (omega arith) (elements_from-below (p + 1) bound bs (omega arith))
elements_from-below p bound (false ∷ bs) fits = elements_from-below (p + 1) bound bs (omega arith)

-- those of a block alone
pub indexes-below : (w p m : ℕ) → All (λ n. n < p + w) (indexes w p m [])
unfolding indexes
indexes-below w p m = elements_from-below p (p + w) (digits_from m 0 w ++ []) (let count = length-digits_from m w [] in omega (arith, count))

pub elements-below : (bound : ℕ) (values : List Bool) → length values ≤ bound → All (λ n. n < bound) (elements values)
elements-below bound values fits = elements_from-below 0 bound values (omega arith)
