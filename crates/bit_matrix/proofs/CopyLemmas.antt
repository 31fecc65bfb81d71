-- Matrices made of others.
use Rattle.std.proofs.Common.{◌≡◌, ℕ, ◌+◌, ◌*◌, ◌<◌, ◌≤◌, ◌⊎◌, Bool, nat_le, nat_lt, ◌==◌, true, false, ◌&&◌, ◌||◌, List, ◌∷◌, refl, sym, ap, ◌∙◌, arith, inl, inr}
use Rattle.std.proofs.lemmas.Bool.{cases_eq, cases_lt, eq-eqb, le-ltb, lt-ltb, ne_eqb, true≢false, Decides.nat_tests}
use Rattle.std.proofs.Math.Nat.{add-mul}
use Rattle.bit_set.specs.Sets.{has}
use Rattle.bit_matrix.specs.Matrices.{ChangesRow, HasTurnedShape, KeepsShape, Matrix, has_at}

pub shape_on : (a b d : Matrix) → KeepsShape a b → KeepsShape b d → KeepsShape a d
shape_on a b d first second = record { rows = second.rows ∙ first.rows; columns = second.columns ∙ first.columns }

pub shape_of_row : (a b : Matrix) (r : ℕ) (f : ℕ → Bool) → ChangesRow a b r f → KeepsShape a b
shape_of_row a b r f changes = record { rows = changes.rows; columns = changes.columns }

pub turned_on : (m a b : Matrix) → HasTurnedShape m a → KeepsShape a b → HasTurnedShape m b
turned_on m a b first second = record { rows = second.rows ∙ first.rows; columns = second.columns ∙ first.columns }

pub rest_inside : (f : ℕ → Bool) (x : ℕ) (xs ys : List ℕ) → xs ≡ x ∷ ys → ((c : ℕ) → has xs c ≡ true → f c ≡ true) → (c : ℕ) → has ys c ≡ true → f c ≡ true
rest_inside f x xs ys is inside c is_in = inside c (ap (λ zs. has zs c) is ∙ (let e = is_in in grind arith))

-- one column more of the row is put in
pub put_more : (old before now : Matrix) (row x : ℕ) (f : ℕ → Bool) (xs ys : List ℕ) → xs ≡ x ∷ ys
    → ChangesRow before now x (λ c. row == c || has_at before x c)
    → ((r c : ℕ) → (has_at before c r || (r == row && has xs c)) ≡ (has_at old c r || (r == row && f c)))
    → (r c : ℕ) → (has_at now c r || (r == row && has ys c)) ≡ (has_at old c r || (r == row && f c))
put_more old before now row x f xs ys is changes so_far r c =
    let was = so_far r c in
    let parts : has xs c ≡ (x == c || has ys c) = ap (λ zs. has zs c) is in
    elim (cases_eq c x) [
      | inl here ↦
          let now_there : has_at now c r ≡ (row == r || has_at before c r) = ap (λ k. has_at now k r) here ∙ changes.row r ∙ ap (λ k. row == r || has_at before k r) (sym here) in
          let one = eq-eqb x c (sym here) in
          elim (cases_eq r row) [
            | inl at ↦ let a = eq-eqb r row at in let b = eq-eqb row r (sym at) in grind arith
            | inr off ↦ let a = ne_eqb r row off in let b = ne_eqb row r (λ e. off (sym e)) in grind arith
          ]
      | inr other ↦
          let now_there : has_at now c r ≡ has_at before c r = ap (λ xs. has xs r) (changes.others c other) in
          let none = ne_eqb x c (λ e. other (sym e)) in
          grind arith
    ]

-- what is from a column on in a row is in the row
pub in_row : (a b : Bool) → (a && b) ≡ true → b ≡ true
in_row true b is = is
in_row false b is = absurd (true≢false (sym is))

-- ---- a matrix that is transposed

-- the columns of one strip more
pub strip_more : (old now m : Matrix) (w k : ℕ) → ((r c : ℕ) → has_at old c r ≡ (nat_lt c (k * w) && has_at m r c))
    → ((r c : ℕ) → k * w ≤ c → c < (k + 1) * w → has_at now c r ≡ has_at m r c)
    → ((r c : ℕ) → (c < k * w) ⊎ ((k + 1) * w ≤ c) → has_at now c r ≡ has_at old c r) → (r c : ℕ)
    → has_at now c r ≡ (nat_lt c ((k + 1) * w) && has_at m r c)
strip_more old now m w k before inside others r c =
    let step = add-mul k 1 w in
    elim (cases_lt c (k * w)) [
      | inl early ↦ others r c (inl early) ∙ before r c
          ∙ (let a : nat_lt c (k * w) ≡ nat_lt c ((k + 1) * w) = lt-ltb c (k * w) early
          ∙ sym (lt-ltb c ((k + 1) * w) (omega (arith, early, step))) in ap (λ b. b && has_at m r c) a)
      | inr from ↦ elim (cases_lt c ((k + 1) * w)) [
        | inl below ↦ inside r c from below ∙ (ap (λ b. b && has_at m r c) (sym (lt-ltb c ((k + 1) * w) below)))
        | inr late ↦ others r c (inr late) ∙ before r c ∙ (ap (λ b. b && has_at m r c) (le-ltb c (k * w) from ∙ sym (le-ltb c ((k + 1) * w) late)))
      ]
    ]

-- one row more is put in
pub row_more : (old before now m : Matrix) (from row : ℕ)
    → ((r c : ℕ) → has_at before c r ≡ (has_at old c r || (nat_lt r row && (nat_le from c && has_at m r c))))
    → ((r c : ℕ) → has_at now c r ≡ (has_at before c r || (r == row && (nat_le from c && has_at m row c)))) → (r c : ℕ)
    → has_at now c r ≡ (has_at old c r || (nat_lt r (row + 1) && (nat_le from c && has_at m r c)))
row_more old before now m from row was is r c = is r c ∙ elim (cases_eq r row) [
  | inl here ↦ rw here (ap (λ b. b || (row == row && (nat_le from c && has_at m row c))) (was row c)
      ∙ (let a = eq-eqb row row refl in let b = le-ltb row row (omega arith) in let d = lt-ltb row (row + 1) (omega arith) in
      grind (arith, a, b, d)))
  | inr other ↦ (let a = ne_eqb r row other in let e : nat_lt r row ≡ nat_lt r (row + 1) = grind (arith, nat_tests) in let w = was r c in grind (arith, a, e, w))
]
