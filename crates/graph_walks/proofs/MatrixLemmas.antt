-- The closure of a matrix, by what is in each row.
use Rattle.std.proofs.Common.{◌≡◌, ℕ, ◌+◌, ◌<◌, true, ◌&&◌, ◌||◌, eqb, nat_lt, length, sym, ap, subst, ◌∙◌, arith, inl, inr}
use Rattle.std.proofs.lemmas.{Bool.{cases_eq, or_cases, Decides.{nat_tests}}}
use Rattle.bit_set.specs.Sets.{has}
use Rattle.bit_matrix.specs.Matrices.{ChangesRow, IsMatrix, Matrix, has_at}
use Rattle.graph_walks.specs.{Closed.{IsClosed, IsClosureOf, IsReflexiveClosureOf}, Paths.{Path, here, onward}}
use Rattle.graph_walks.proofs.CloseLemmas.{edge_within, path_on}

-- one node more is in its own row
pub own_bit : (old before now : Matrix) (node : ℕ)
    → ((u v : ℕ) → has_at before u v ≡ (has_at old u v || (eqb u v && nat_lt u node)))
    → ChangesRow before now node (λ c. eqb node c || has_at before node c)
    → (u v : ℕ) → has_at now u v ≡ (has_at old u v || (eqb u v && nat_lt u (node + 1)))
own_bit old before now node so_far puts u v = elim (cases_eq u node) [
  | inl is ↦
      let here : has_at now u v ≡ has_at now node v = ap (λ k. has_at now k v) is in
      let was : has_at before u v ≡ has_at before node v = ap (λ k. has_at before k v) is in
      let row = puts.row v in
      let first = so_far u v in
      grind (arith, nat_tests)
  | inr other ↦
      let stays : has_at now u v ≡ has_at before u v = ap (λ s. has s v) (puts.others u other) in
      let first = so_far u v in
      grind (arith, nat_tests)
]

-- the closure, and each node in its own row
module _ (old mid new : Matrix) (closure : IsClosureOf old.rows mid.rows) (is_matrix : IsMatrix mid) (rows : length mid.rows ≡ length old.rows) (columns : mid.columns ≡ old.columns)
    (bits : (u v : ℕ) → has_at new u v ≡ (has_at mid u v || (eqb u v && (nat_lt u (length mid.rows) && nat_lt u mid.columns)))) where
  from_path : (u v : ℕ) → u < length old.rows → v < old.columns → Path old.rows u v → has_at new u v ≡ true
  from_path u v low in_columns here = let at = bits u u in grind (arith, nat_tests)
  from_path u v low in_columns (onward {v = x} path edge) = let at = bits u v in let is : has_at mid u v ≡ true = (closure u v).1 (x, path, edge) in grind arith

  to_path : (u v : ℕ) → has_at new u v ≡ true → (u < length old.rows) × (v < old.columns) × Path old.rows u v
  to_path u v is = elim (or_cases (has_at mid u v) (eqb u v && (nat_lt u (length mid.rows) && nat_lt u mid.columns)) (sym (bits u v) ∙ is)) [
    | inl edge ↦
        let low = edge_within mid.rows u v edge in
        let in_columns = is_matrix.below u v edge in
        let leads = (closure u v).0 edge in
        (omega (arith, low, rows), omega (arith, in_columns, columns), onward leads.1 leads.2)
    | inr own ↦
        let it : u ≡ v = grind (arith, nat_tests) in
        let low : u < length old.rows = grind (arith, nat_tests) in
        let in_columns : v < old.columns = grind (arith, nat_tests) in
        (low, in_columns, subst (λ w. Path old.rows u w) it here)
  ]

  pub is_reflexive_closure : IsReflexiveClosureOf old new
  is_reflexive_closure u v = (to_path u v, λ h. from_path u v h.0 h.1 h.2)

pub reflexive_is_closed : (old new : Matrix) → IsReflexiveClosureOf old new → IsClosed new.rows
reflexive_is_closed old new closure u v w a b =
    let first = (closure u v).0 a in
    let second = (closure v w).0 b in
    (closure u w).1 (first.0, second.1, path_on old.rows u v w first.2 second.2)
