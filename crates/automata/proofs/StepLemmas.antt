-- Sets of states, from one symbol to the next.
use Rattle.std.proofs.Common.{◌≡◌, ℕ, ◌<◌, ◌≤◌, Bool, not, true, false, ◌||◌, ◌&&◌, eqb, cond, ◌⊎◌, inl, inr, List, [], ◌∷◌, ◌++◌, length, map, get_or, refl, sym, ap, ◌∙◌, ◌↔◌, arith}
use Rattle.std.proofs.{lemmas.Bool.{true≢false, cases_eq, eq-eqb, ne_eqb, or_cases, or_left, or_right}, Math.Bool.or-false}
use Rattle.std.proofs.{Math.ListN.get_or-map, lemmas.List.{get_or_default, get_or_past, length-map}}
use Rattle.bit_set.specs.{Bits.Bits, Members.{IsDisjoint, IsUnion, Updates}, Sets.{elements, has, is_disjoint}}
use Rattle.automata.specs.Bounds.{set_at}
use Rattle.automata.specs.Runs.{Accepts, Automaton, IsEnd, IsImage, Leads, Run, here, onward, row_of, row_of_sets, successors}

-- ---- the states to which a row leads, from one state after another

-- What was gathered from the states that are not left any more.
pub record Gathers (row : List (List ℕ)) (states left into : List ℕ) : Type 0 where
  pub inside : (u : ℕ) → has left u ≡ true → has states u ≡ true
  pub sound : (v : ℕ) → has into v ≡ true → (u : ℕ) × (has states u ≡ true) × (has (successors row u) v ≡ true)
  pub complete : (u v : ℕ) → has states u ≡ true → has (successors row u) v ≡ true → (has into v ≡ true) ⊎ (has left u ≡ true)

pub gathers_none : (row : List (List ℕ)) (states into : List ℕ) → ((n : ℕ) → has into n ≡ false) → Gathers row states states into
gathers_none row states into none = record { inside = λ u h. h; sound = λ v h. absurd (true≢false (sym h ∙ none v)); complete = λ u v h edge. inr h }

pub gathers_all : (row : List (List ℕ)) (states into : List ℕ) → Gathers row states [] into → IsImage row states into
gathers_all row states into g v = (g.sound v, λ p. elim (g.complete p.0 v p.1 p.2) [ inl is ↦ is | inr none ↦ absurd (true≢false (sym none)) ])

module _ (row : List (List ℕ)) (states left rest into new : List ℕ) (x : ℕ) (g : Gathers row states left into) (is_in : has left x ≡ true) (others : Updates left rest x false) where
  still : (u : ℕ) → (x ≡ u → ⊥) → has rest u ≡ has left u
  still u other = others u ∙ ap (λ b. cond b false (has left u)) (ne_eqb x u other)

  before : (u : ℕ) → has rest u ≡ true → has left u ≡ true
  before u h = elim (cases_eq x u) [
    | inl is ↦ ap (has left) (sym is) ∙ is_in
    | inr other ↦ sym (still u other) ∙ h
  ]

  pub gathers_on : IsUnion into (successors row x) new → Gathers row states rest new
  gathers_on members = record {
    inside = λ u h. g.inside u (before u h);
    sound = λ v h. elim (or_cases (has into v) _ (sym (members v) ∙ h)) [
      | inl old ↦ g.sound v old
      | inr edge ↦ (x, g.inside x is_in, edge)
    ];
    complete = λ u v h edge. elim (g.complete u v h edge) [
      | inl old ↦ inl (members v ∙ or_left (has into v) _ old)
      | inr waits ↦ elim (cases_eq x u) [
        | inl is ↦ inl (members v ∙ or_right (has into v) _ (ap (λ n. has (successors row n) v) is ∙ edge))
        | inr other ↦ inr (still u other ∙ waits)
      ]
    ];
  }

-- a state past the row's end leads nowhere
pub nowhere : (row : List (List ℕ)) (into : List ℕ) (x : ℕ) → length row ≤ x → IsUnion into (successors row x) into
nowhere row into x past v = sym (or-false (has into v)) ∙ ap (λ r. has into v || has r v) (sym (get_or_past row x [] past))

-- ---- from one symbol to the next

pub run_on : (moves : List (List (List ℕ))) (u v w symbol : ℕ) (word : List ℕ) → Run moves u word v → Leads moves v symbol w → Run moves u (word ++ symbol ∷ []) w
run_on moves u v w symbol [] here leads = onward leads here
run_on moves u v w symbol (x ∷ xs) (onward {v = m} first rest) leads = onward first (run_on moves m v w symbol xs rest leads)

same_state : (moves : List (List (List ℕ))) (s : List ℕ) (u v : ℕ) → Run moves u [] v → has s u ≡ true → has s v ≡ true
same_state moves s u v here h = h

at_rest : (moves : List (List (List ℕ))) (u symbol v w : ℕ) → Leads moves u symbol v → Run moves v [] w → Leads moves u symbol w
at_rest moves u symbol v w leads here = leads

pub last_of_run : (moves : List (List (List ℕ))) (u w symbol : ℕ) (word : List ℕ) → Run moves u (word ++ symbol ∷ []) w → (v : ℕ) × Run moves u word v × Leads moves v symbol w
last_of_run moves u w symbol [] (onward {v = m} first rest) = (u, here, at_rest moves u symbol m w first rest)
last_of_run moves u w symbol (x ∷ xs) (onward {v = m} first rest) = let p = last_of_run moves m w symbol xs rest in (p.0, onward first p.1, p.2)

pub end_none : (moves : List (List (List ℕ))) (s : List ℕ) → IsEnd moves s [] s
end_none moves s v = (λ h. (v, h, here), λ p. same_state moves s p.0 v p.2 p.1)

pub end_on : (moves : List (List (List ℕ))) (s t next word : List ℕ) (symbol : ℕ) → IsEnd moves s word t → IsImage (row_of moves symbol) t next → IsEnd moves s (word ++ symbol ∷ []) next
end_on moves s t next word symbol end image v = (
  (λ h. let from = (image v).0 h in let start = (end from.0).0 from.1 in (start.0, start.1, run_on moves start.0 from.0 v symbol word start.2 from.2)),
  (λ p. let last = last_of_run moves p.0 v symbol word p.2 in (image v).1 (last.0, (end last.0).1 (p.0, p.1, last.1), last.2)),
)

-- ---- what is read of rows

pub row_at : (sets : List Bits) (u : ℕ) → successors (row_of_sets sets) u ≡ elements (set_at sets u).values
row_at sets u = get_or-map (λ (set : Bits). elements set.values) sets u (record { values = []; capacity = 0 })

pub row_past : (sets : List Bits) (u : ℕ) → length sets ≤ u → length (row_of_sets sets) ≤ u
row_past sets u past = omega (arith, past, length-map sets (λ (set : Bits). elements set.values))

pub mapped : {X Y : Type 0} (f : X → Y) (xs : List X) (i : ℕ) (x : X) (d : Y) → i < length xs → x ≡ get_or xs i x → get_or (map f xs) i d ≡ f x
mapped f xs i x d lt is = get_or_default (map f xs) i d (f x) (omega (arith, lt, length-map xs f)) ∙ get_or-map f xs i x ∙ ap f (sym is)

pub mapped_past : {X Y : Type 0} (f : X → Y) (xs : List X) (i : ℕ) (d : Y) → length xs ≤ i → get_or (map f xs) i d ≡ d
mapped_past f xs i d past = get_or_past (map f xs) i d (omega (arith, past, length-map xs f))

-- a symbol past the last row leads nowhere
pub image_past : (moves : List (List (List ℕ))) (symbol : ℕ) (states into : List ℕ) → row_of moves symbol ≡ [] → ((v : ℕ) → has into v ≡ false) → IsImage (row_of moves symbol) states into
image_past moves symbol states into none empty v = (λ h. absurd (true≢false (sym h ∙ empty v)), λ p. absurd (true≢false (sym p.2 ∙ ap (λ row. has (successors row p.0) v) none)))

-- ---- two sets that share a state

pub shared : (s t : List ℕ) → is_disjoint s t ≡ false → (v : ℕ) × (has s v ≡ true) × (has t v ≡ true)
shared [] t h = absurd (true≢false h)
shared (x ∷ xs) t h = elim (has t x) as (λ b. has t x ≡ b → (not b && is_disjoint xs t) ≡ false → (v : ℕ) × (has (x ∷ xs) v ≡ true) × (has t v ≡ true)) [
  | true ↦ λ e rest. (x, or_left (eqb x x) _ (eq-eqb x x refl), e)
  | false ↦ λ e rest. let p = shared xs t rest in (p.0, or_right (eqb x p.0) _ p.1, p.2)
] refl h

pub not_disjoint : (s t : List ℕ) (v : ℕ) → has s v ≡ true → has t v ≡ true → IsDisjoint s t → ⊥
not_disjoint s t v in_s in_t apart = true≢false (sym in_t ∙ apart v in_s)

pub accepted : (nfa : Automaton) (word s : List ℕ) (apart : Bool) → IsEnd nfa.moves nfa.starts word s
    → apart ≡ is_disjoint s nfa.accepting → ((apart ≡ true) ↔ IsDisjoint s nfa.accepting) → (not apart ≡ true) ↔ Accepts nfa word
accepted nfa word s true end value members = (λ h. absurd (true≢false (sym h)), λ p. absurd (not_disjoint s nfa.accepting p.0 ((end p.0).1 p.1) p.2 (members.0 refl)))
accepted nfa word s false end value members = (λ h. let p = shared s nfa.accepting (sym value) in (p.0, (end p.0).0 p.1, p.2), λ p. refl)
