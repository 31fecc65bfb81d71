-- Columns that are put into the blocks of a row, one after another.
use Rattle.std.proofs.Common.{◌≡◌, ◌≢◌, ℕ, ◌+◌, ◌-◌, ◌*◌, ◌/◌, ◌%◌, ◌<◌, ◌≤◌, ◌&&◌, ◌∙◌, List, ◌∷◌, ap, arith, false, true, get_or, get_or-set_other, get_or-set_same, length, nat_le, not, replicate, set, sym, ⊎_elim}
use Rattle.std.proofs.lemmas.{Bool.cases_eq, Bool.Decides.nat_tests, List.get_or-replicate}
use Rattle.bit_blocks.{proofs.Masks.is_one-zero, specs.Digits.is_one}
use Rattle.bit_set.{proofs.SetLemmas.{has-below, has-filter}, specs.Sets.{IsAscending, has, those_from}}
use Rattle.bit_set_c.specs.Block.{width}

-- the blocks from one on have the columns of the row that are not left
abbrev pub ArePut : List ℕ → List ℕ → ℕ → List ℕ → Type 0
ArePut row left from ms = (k j : ℕ) → k < length ms → j < width
    → is_one (get_or ms k 0) j ≡ (has row ((from + k) * width + j) && not (has left ((from + k) * width + j)))

pub none_put : (row left : List ℕ) (from : ℕ) (ms : List ℕ) (n : ℕ) → left ≡ those_from row (from * width) → ms ≡ replicate n 0 → n ≡ length ms → ArePut row left from ms
none_put row left from ms n is zeros long k j inside within =
    let c = (from + k) * width + j in
    let zero = ap (λ ms. is_one (get_or ms k 0) j) zeros ∙ ap (λ m. is_one m j) (get_or-replicate n k 0 0 (omega (arith, inside, long))) ∙ is_one-zero j in
    let member = ap (λ s. has s c) is ∙ has-filter (λ y. nat_le (from * width) y) row c in
    let low : from * width ≤ c = omega arith in
    grind (arith, nat_tests, zero, member, low)

-- a column more, the first that is left
pub next_put : (row rest : List ℕ) (from c : ℕ) (ms : List ℕ) (m : ℕ) → IsAscending (c ∷ rest) → has row c ≡ true → from * width ≤ c → c / width - from < length ms
    → is_one m (c % width) ≡ true → ((j : ℕ) → j < width → j ≢ c % width → is_one m j ≡ is_one (get_or ms (c / width - from) 0) j)
    → ArePut row (c ∷ rest) from ms → length (set ms (c / width - from) m) ≡ length ms → ArePut row rest from (set ms (c / width - from) m)
next_put row rest from c ms m up is_in low inside one others before long k j below within =
    let at = c / width - from in
    let n = (from + k) * width + j in
    let within_ms : k < length ms = omega (arith, below, long) in
    let was = before k j within_ms within in
    let past = has-below (c + 1) rest c up.1 (omega arith) in
    ⊎_elim
    (λ same.
    let here : get_or (set ms at m) k 0 ≡ m = ap (λ i. get_or (set ms at m) i 0) same ∙ get_or-set_same ms at m 0 inside in
    ⊎_elim
    (λ e.
    let is : n ≡ c = omega (arith, same, e, low) in
    let new : (has row n && not (has rest n)) ≡ true = ap (λ x. has row x && not (has rest x)) is ∙ grind (arith, nat_tests, is_in, past) in
    ap (λ b. is_one b j) here ∙ ap (is_one m) e ∙ one ∙ sym new)
    (λ other.
    let apart : c ≢ n = λ e. other (omega (arith, e, within, low)) in
    let block = ap (λ b. is_one b j) here ∙ others j within other ∙ ap (λ i. is_one (get_or ms i 0) j) (sym same) in
    grind (arith, nat_tests, block, was, apart))
    (cases_eq j (c % width)))
    (λ other.
    let block = ap (λ b. is_one b j) (get_or-set_other ms at k m 0 other) in
    let apart : c ≢ n = λ e. other (omega (arith, e, within, low)) in
    grind (arith, nat_tests, block, was, apart))
    (cases_eq k at)

-- those that are left are past the blocks
pub all_put : (row left : List ℕ) (from : ℕ) (ms : List ℕ) → ArePut row left from ms → ((k j : ℕ) → k < length ms → j < width → has left ((from + k) * width + j) ≡ false)
    → (k j : ℕ) → k < length ms → j < width → is_one (get_or ms k 0) j ≡ has row ((from + k) * width + j)
all_put row left from ms put none k j inside within =
    let is = put k j inside within in
    let out = none k j inside within in
    grind (arith, nat_tests, is, out)
