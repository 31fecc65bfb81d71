-- For each block the blocks that it flows into.
use Rattle.std.proofs.Common.{◌≡◌, ◌≢◌, ℕ, ◌+◌, ◌<◌, ◌≤◌, true, eqb, inl, inr, List, [], ◌∷◌, ◌++◌, length, set, refl, sym, ap, ◌∙◌, arith}
use Rattle.std.proofs.lemmas.Bool.{Decides.nat_tests, cases_eq, eq-eqb, eqb-true, or_cases, or_left, or_right, true≢false}
use Rattle.std.proofs.lemmas.List.{get_or-set_other, get_or-set_same}
use Rattle.bit_set.specs.Sets.{has}
use Rattle.dataflow.{specs.{Flow.{Flow, block_at}, Worklist.{AddsDependent, row_at}}, proofs.TakeLemmas.in_push}

-- ---- a row is written

pub row_written : (rows : List (List ℕ)) (x : ℕ) (row : List ℕ) → x < length rows → row_at (set rows x row) x ≡ row
row_written rows x row lt = get_or-set_same rows x row [] lt

pub other_rows : (rows : List (List ℕ)) (x : ℕ) (row : List ℕ) (s : ℕ) → s ≢ x → row_at (set rows x row) s ≡ row_at rows s
other_rows rows x row s other = get_or-set_other rows x s row [] other

-- ---- one block, source by source

module _ (sources : List ℕ) (b x : ℕ) (first old new : List (List ℕ)) (a : AddsDependent sources b first old) where
  -- a source that is a block
  pub adds_on : length new ≡ length old → ((s : ℕ) → s ≢ x → row_at new s ≡ row_at old s) → row_at new x ≡ row_at old x ++ b ∷ [] → AddsDependent (sources ++ x ∷ []) b first new
  adds_on long others here = record {
    long = long ∙ a.long;
    kept = λ c s h. keeps c s (a.kept c s h);
    adds = λ s lt source. elim (or_cases (has sources s) (eqb x s) (sym (in_push sources x s) ∙ source)) [
      | inl before ↦ keeps b s (a.adds s lt before)
      | inr is ↦ ap (λ n. has (row_at new n) b) (sym (eqb-true x s is)) ∙ ap (λ r. has r b) here ∙ in_push (row_at old x) b b ∙ or_right (has (row_at old x) b) _ (eq-eqb b b refl)
    ];
    only = λ c s h. elim (cases_eq s x) [
      | inl is ↦ elim (or_cases (has (row_at old x) c) (eqb b c) (sym (in_push (row_at old x) b c) ∙ sym (ap (λ r. has r c) here) ∙ ap (λ n. has (row_at new n) c) (sym is) ∙ h)) [
        | inl before ↦ a.only c s (ap (λ n. has (row_at old n) c) is ∙ before)
        | inr same ↦ inr (sym (eqb-true b c same))
      ]
      | inr other ↦ a.only c s (sym (ap (λ r. has r c) (others s other)) ∙ h)
    ];
  }
    where
      keeps : (c s : ℕ) → has (row_at old s) c ≡ true → has (row_at new s) c ≡ true
      keeps c s h = let other = others s in grind (arith, nat_tests, other, here, in_push (row_at old x) b c, h)

  -- one that is none
  pub adds_past : length old ≤ x → AddsDependent (sources ++ x ∷ []) b first old
  adds_past past = record {
    long = a.long;
    kept = a.kept;
    adds = λ s lt source. elim (or_cases (has sources s) (eqb x s) (sym (in_push sources x s) ∙ source)) [
      | inl before ↦ a.adds s lt before
      | inr is ↦ absurd (too_far s lt (eqb-true x s is))
    ];
    only = a.only;
  }
    where
      too_far : (s : ℕ) → s < length first → x ≡ s → ⊥
      too_far s lt is = let long = a.long in omega (arith, lt, is, past, long)

-- ---- block after block

-- The rows have the first of the blocks.
pub record Depends (blocks : List Flow) (count : ℕ) (rows : List (List ℕ)) : Type 0 where
  pub long : length rows ≡ length blocks
  pub all : (b s : ℕ) → b < count → s < length blocks → has (block_at blocks b).sources s ≡ true → has (row_at rows s) b ≡ true
  pub inside : (b s : ℕ) → has (row_at rows s) b ≡ true → b < count

-- before the first block
pub none_depend : (blocks : List Flow) (rows : List (List ℕ)) → length rows ≡ length blocks → ((s : ℕ) → row_at rows s ≡ []) → Depends blocks 0 rows
none_depend blocks rows long empty = record {
  long = long;
  all = λ b s low. absurd (omega (arith, low));
  inside = λ b s h. absurd (true≢false (sym h ∙ ap (λ r. has r b) (empty s)));
}

-- and after one more
pub more_depend : (blocks : List Flow) (n : ℕ) (sources : List ℕ) (old new : List (List ℕ)) → Depends blocks n old
    → AddsDependent sources n old new → sources ≡ (block_at blocks n).sources → Depends blocks (n + 1) new
more_depend blocks n sources old new before a is = record {
  long = a.long ∙ before.long;
  all = λ b s low lt h. elim (cases_eq b n) [
    | inl same ↦ ap (λ m. has (row_at new s) m) same ∙ a.adds s (let long = before.long in omega (arith, lt, long)) (ap (λ l. has l s) is ∙ ap (λ m. has (block_at blocks m).sources s) (sym same) ∙ h)
    | inr other ↦ a.kept b s (before.all b s (omega (arith, low, other)) lt h)
  ];
  inside = λ b s h. elim (a.only b s h) [
    | inl was ↦ let low = before.inside b s was in omega (arith, low)
    | inr same ↦ omega (arith, same)
  ];
}
