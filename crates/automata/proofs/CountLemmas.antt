-- No more different sets are reached than the table has states.
use Rattle.std.proofs.Common.{◌≡◌, ℕ, ◌<◌, ◌≤◌, true, eqb, inl, inr, List, [], ◌∷◌, ◌++◌, length, zero, suc, get_or, refl, sym, ap, ◌∙◌, arith}
use Rattle.std.proofs.lemmas.Bool.{true≢false, cases_lt, eqb-true, ne_eqb, or_cases}
use Rattle.std.proofs.lemmas.List.{get_or_append_left, get_or_default, get_or_push, length_push}
use Rattle.std.proofs.{lemmas.Map.Keys.IsDistinct-from_apart, lemmas.Map.Steps.length-le_from_distinct_below}
use Rattle.std.specs.List.{IsDistinct, list_any}
use Rattle.bit_set.specs.{Members.IsSameSet, Sets.has}
use Rattle.automata.{specs.{Numbering.set_of, Runs.Automaton}, proofs.BuildLemmas.same_reach}
use Rattle.automata.specs.Tables.{IsSubsetTable, IsWordOver, ReachesMoreThan, Table, end_of}

below_all : (xs : List ℕ) (n : ℕ) → ((i : ℕ) → i < length xs → get_or xs i 0 < n) → (q : ℕ) → list_any (eqb q) xs ≡ true → q < n
below_all [] n each q h = absurd (true≢false (sym h))
below_all (x ∷ xs) n each q h = elim (or_cases (eqb q x) (list_any (eqb q) xs) h) [
  | inl is ↦ let first : x < n = each 0 (omega arith) in rw (eqb-true q x is) first
  | inr later ↦ below_all xs n (λ i lt. each (suc i) (omega (arith, lt))) q later
]

module _ (nfa : Automaton) (dfa : Table) (sets : List (List ℕ)) (t : IsSubsetTable nfa dfa sets) (most : ℕ) (more : ReachesMoreThan most nfa) where
  -- a state that represents set i of the others
  record Represents (i state : ℕ) : Type 0 where
    pub inside : state < dfa.states
    pub same : IsSameSet (set_of more.0 i) (set_of sets state)

  represented : (i : ℕ) → i < length more.0 → (state : ℕ) × Represents i state
  represented i lt =
      let r = more.1 i lt in
      let over : IsWordOver dfa.symbols r.0 = rw t.symbols r.1 in
      let l = t.leads r.0 over in
      (end_of dfa r.0, record { inside = l.0; same = same_reach nfa r.0 _ _ r.2 l.1 })

  gather : (m : ℕ) → m ≤ length more.0 → (xs : List ℕ) × (length xs ≡ m) × ((i : ℕ) → i < m → Represents i (get_or xs i 0))
  gather zero le = ([], refl, λ i lt. absurd (omega (arith, lt)))
  gather (suc m) le =
      let before = gather m (omega (arith, le)) in
      let last = represented m (omega (arith, le)) in (
        before.0 ++ last.0 ∷ [],
        omega (arith, before.1, length_push before.0 last.0),
        λ i lt. elim (cases_lt i m) [
          | inl below ↦ let inside : i < length before.0 = omega (arith, below, before.1) in rw get_or_append_left (before.2 i below)
          | inr above ↦
              let is : i ≡ m = omega (arith, lt, above) in
              rw (get_or_push before.0 last.0 0 i (before.1 ∙ sym is), is) last.1
        ],
      )

  pub no_more : dfa.states ≤ most → ⊥
  no_more few =
      let all = gather (length more.0) (omega arith) in
      let distinct : IsDistinct eqb all.0 = IsDistinct-from_apart eqb all.0 (λ i j d lt lt_j.
      let i_in : i < length all.0 = omega (arith, lt, lt_j) in
      let i_set = all.2 i (omega (arith, i_in, all.1)) in
      let j_set = all.2 j (omega (arith, lt_j, all.1)) in
      rw (get_or_default all.0 i d 0 i_in, get_or_default all.0 j d 0 lt_j) (ne_eqb _ _ (λ same.
      let is : i ≡ j = more.2 i j (omega (arith, i_in, all.1)) (omega (arith, lt_j, all.1)) (λ v. i_set.same v ∙ ap (λ s. has (set_of sets s) v) same ∙ sym (j_set.same v)) in
      omega (arith, lt, is)))) in
      let bound : length all.0 ≤ dfa.states = length-le_from_distinct_below all.0 dfa.states distinct (below_all all.0 dfa.states (λ i lt. (all.2 i (omega (arith, lt, all.1))).inside)) in
      omega (arith, bound, all.1, more.3, few)
