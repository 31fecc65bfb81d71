-- What is missing at the end of each block, and the greatest solution by it.
use Rattle.std.proofs.Common.{◌≡◌, ◌≢◌, ℕ, ◌<◌, ◌≤◌, ◌+◌, Bool, not, ◌&&◌, ◌==◌, cond, eqb, nat_le, nat_lt, suc, zero, List}
use Rattle.std.proofs.Common.{[], ◌∷◌, length, map, get_or, inl, inr, ◌⊎◌, refl, sym, ap, ◌∙◌, ◌↔◌, true, false, arith}
use Rattle.std.proofs.lemmas.Bool.{true≢false, true_from_ne_false, false_from_ne_true, cases_Bool, cases_eq, cases_lt, eq-eqb, eqb-true, le-leb, leb-true, lt-ltb, ltb-true, or_cases, or_left, or_right}
use Rattle.std.{specs.List.list_any, proofs.lemmas.List.{get_or_past, length-map}}
use Rattle.bit_set.specs.Sets.{difference, elements, has}
use Rattle.dataflow.specs.Availability.{AreAvailable, AreComplements, IsComplement, IsAvailableByPredecessors, IsMissing}
use Rattle.dataflow.specs.Availability.{after_kill, after_path, at_entry, computed_in, killed_in, missing_flow}
use Rattle.dataflow.specs.Availability.{predecessors_of, starts_with_none}
use Rattle.dataflow.specs.Flow.{AreReached, Flow, Reaches, block_at, made, onward, set_at}
use Rattle.dataflow.specs.declared.expressions.ExpressionBlock.{ExpressionBlock}
use Rattle.dataflow.proofs.{AnalysisLemmas.block_of, TakeLemmas.{and_true, of_and}}

-- the sets below one are complements, and the others are as before
pub record IsComplementedBelow (count i : ℕ) (old new : List (List ℕ)) : Type 0 where
  pub long : length new ≡ length old
  pub done : (b : ℕ) → b < i → IsComplement count (set_at old b) (set_at new b)
  pub rest : (b : ℕ) → i ≤ b → set_at new b ≡ set_at old b

-- ---- from what is missing to the greatest solution

-- The sets have just the expressions below `count` that are not missing.
pub record AreFound {B : Type 0} (blocks : List (ExpressionBlock B)) (count : ℕ) (out : List (List ℕ)) : Type 0 where
  pub below : (b e : ℕ) → has (set_at out b) e ≡ true → e < count
  pub missing : (b e : ℕ) → e < count → has (set_at out b) e ≡ false → IsMissing blocks e b
  pub found : (b e : ℕ) → has (set_at out b) e ≡ true → IsMissing blocks e b → ⊥

clash : {x : Bool} → x ≡ true → x ≡ false → ⊥
clash is none = true≢false (sym is ∙ none)

module _ {B : Type 0} (blocks : List (ExpressionBlock B)) (count : ℕ) (out : List (List ℕ)) (f : AreFound blocks count out) where
  -- what is available is in the right side
  due : (b e : ℕ) → e < count → has (set_at out b) e ≡ true → IsAvailableByPredecessors blocks out b e
  due b e low h = elim (cases_Bool (has (computed_in blocks b) e)) [
    | inl computed ↦ inl computed
    | inr not_here ↦ inr (
      λ none. f.found b e h (at_entry none not_here),
      λ p source. true_from_ne_false _ (λ lost. f.found b e h (after_path source not_here (f.missing p e low lost))),
      false_from_ne_true _ (λ killed. f.found b e h (after_kill killed not_here)),
    )
  ]

  -- what is in the right side is not missing
  never : (b e : ℕ) → IsAvailableByPredecessors blocks out b e → IsMissing blocks e b → ⊥
  never b e (inl computed) (at_entry none not_here) = clash computed not_here
  never b e (inl computed) (after_kill killed not_here) = clash computed not_here
  never b e (inl computed) (after_path source not_here before) = clash computed not_here
  never b e (inr (some, all, passes)) (at_entry none not_here) = some none
  never b e (inr (some, all, passes)) (after_kill killed not_here) = clash killed passes
  never b e (inr (some, all, passes)) (after_path {p = p} source not_here before) = f.found p e (all p source) before

  has_due : (b e : ℕ) → e < count → IsAvailableByPredecessors blocks out b e → has (set_at out b) e ≡ true
  has_due b e low side = true_from_ne_false _ (λ lost. never b e side (f.missing b e low lost))

  -- sets with nothing but what is in their right sides have nothing that is missing
  not_missing : (others : List (List ℕ)) → ((b e : ℕ) → has (set_at others b) e ≡ true
      → (e < count) × IsAvailableByPredecessors blocks others b e) → (e b : ℕ) → IsMissing blocks e b
      → has (set_at others b) e ≡ true → ⊥
  not_missing others within e b (at_entry none not_here) h = elim ((within b e h).1) [
    | inl computed ↦ clash computed not_here
    | inr rest ↦ rest.0 none
  ]
  not_missing others within e b (after_kill killed not_here) h = elim ((within b e h).1) [
    | inl computed ↦ clash computed not_here
    | inr rest ↦ clash killed rest.2
  ]
  not_missing others within e b (after_path {p = p} source not_here before) h = elim ((within b e h).1) [
    | inl computed ↦ clash computed not_here
    | inr rest ↦ not_missing others within e p before (rest.1 p source)
  ]

  pub are_available : AreAvailable blocks count out
  are_available = record {
    below = f.below;
    equation = λ b e low. (due b e low, has_due b e low);
    greatest = λ others within b e h. true_from_ne_false _ (λ lost. not_missing others within e b (f.missing b e (within b e h).0 lost) h);
  }

  pub each_available : (b e : ℕ) → e < count → (has (set_at out b) e ≡ true) ↔ (IsMissing blocks e b → ⊥)
  each_available b e low = (f.found b e, λ never_lost. true_from_ne_false _ (λ lost. never_lost (f.missing b e low lost)))

-- ---- from the data-flow problem to what is missing

none_past : {X : Type 0} (f : X → List ℕ) (blocks : List X) (b : ℕ) → length blocks ≤ b → get_or (map f blocks) b [] ≡ []
none_past f blocks b past = get_or_past (map f blocks) b [] (omega (arith, past, length-map blocks f))

empty : (xs : List ℕ) → (length xs == 0) ≡ true → xs ≡ []
empty [] h = refl
empty (x ∷ xs) h = absurd (omega (arith, eqb-true (length (x ∷ xs)) 0 h))

some_past : (n : ℕ) (xs : List ℕ) → list_any (λ p. nat_le n p) xs ≡ true → (p : ℕ) × (has xs p ≡ true) × (n ≤ p)
some_past n [] h = absurd (true≢false (sym h))
some_past n (x ∷ xs) h = elim (or_cases (nat_le n x) _ h) [
  | inl here ↦ (x, or_left (eqb x x) _ (eq-eqb x x refl), leb-true n x here)
  | inr more ↦ let p = some_past n xs more in (p.0, or_right (eqb x p.0) _ p.1, p.2)
]

past_some : (n : ℕ) (xs : List ℕ) (p : ℕ) → has xs p ≡ true → n ≤ p → list_any (λ q. nat_le n q) xs ≡ true
past_some n [] p h past = absurd (true≢false (sym h))
past_some n (x ∷ xs) p h past = elim (or_cases (eqb x p) (has xs p) h) [
  | inl same ↦ or_left (nat_le n x) _ (le-leb n x (let is = eqb-true x p same in omega (arith, is, past)))
  | inr more ↦ or_right (nat_le n x) _ (past_some n xs p more past)
]

generated_at : {B : Type 0} (n : ℕ) (all : List ℕ) (blocks : List (ExpressionBlock B)) (b : ℕ) → b < length blocks → get_or (map (λ x. (missing_flow n all x).generated) blocks) b []
    ≡ difference (cond (starts_with_none (predecessors_of blocks b) n) all (killed_in blocks b)) (computed_in blocks b)
generated_at n all [] b lt = absurd (omega (arith, lt))
generated_at n all (x ∷ xs) zero lt = refl
generated_at n all (x ∷ xs) (suc b) lt = generated_at n all xs b (omega (arith, lt))

module _ {B : Type 0} (blocks : List (ExpressionBlock B)) (all : List ℕ) (law : (s t : List ℕ) (n : ℕ) → has (difference s t) n ≡ (has s n && not (has t n))) where
  abbrev flows : List Flow
  flows = map (missing_flow (length blocks) all) blocks

  abbrev generated_in : ℕ → List ℕ
  generated_in b = get_or (map (λ x. (missing_flow (length blocks) all x).generated) blocks) b []

  abbrev starts : ℕ → Bool
  starts b = starts_with_none (predecessors_of blocks b) (length blocks)

  at : (b : ℕ) → block_at flows b ≡ record { sources = predecessors_of blocks b; generated = generated_in b; killed = computed_in blocks b }
  at b = block_of (λ (x : ExpressionBlock B). x.predecessors.items) (λ x. (missing_flow (length blocks) all x).generated) (λ x. elements x.computed.values) blocks b

  past_end : (b e : ℕ) → length blocks ≤ b → IsMissing blocks e b
  past_end b e past =
      at_entry (none_past (λ (x : ExpressionBlock B). x.predecessors.items) blocks b past)
      (ap (λ s. has s e) (none_past (λ (x : ExpressionBlock B). elements x.computed.values) blocks b past))

  made_missing : (e b : ℕ) → b < length blocks → has (generated_in b) e ≡ true → IsMissing blocks e b
  made_missing e b lt h =
      let parts = of_and _ _ (sym (law (cond (starts b) all (killed_in blocks b)) (computed_in blocks b) e) ∙ ap (λ s. has s e) (sym (generated_at (length blocks) all blocks b lt)) ∙ h) in
      elim (cases_Bool (starts b)) [
        | inl none ↦ elim (or_cases (length (predecessors_of blocks b) == 0) _ none) [
          | inl is ↦ at_entry (empty (predecessors_of blocks b) is) parts.1
          | inr some ↦ let p = some_past (length blocks) (predecessors_of blocks b) some in after_path p.1 parts.1 (past_end p.0 e p.2)
        ]
        | inr some ↦ after_kill (ap (λ t. has (cond t all (killed_in blocks b)) e) (sym some) ∙ parts.0) parts.1
      ]

  pub reach_missing : (e b : ℕ) → Reaches flows e b → IsMissing blocks e b
  reach_missing e b (made is) = elim (cases_lt b (length blocks)) [
    | inl lt ↦ made_missing e b lt (rw (at b) at is)
    | inr past ↦ past_end b e past
  ]
  reach_missing e b (onward {s = s} source passes before) = after_path (rw (at b) at source) (rw (at b) at passes) (reach_missing e s before)

  generates : (e b : ℕ) → b < length blocks → has (cond (starts b) all (killed_in blocks b)) e ≡ true → has (computed_in blocks b) e ≡ false → Reaches flows e b
  generates e b lt h not_here = made (rw (at b, generated_at (length blocks) all blocks b lt) (law (cond (starts b) all (killed_in blocks b)) (computed_in blocks b) e ∙ and_true _ _ h not_here))

  pub missing_reach : (e b : ℕ) → has all e ≡ true → b < length blocks → IsMissing blocks e b → Reaches flows e b
  missing_reach e b inside lt (at_entry none not_here) = generates e b lt (ap (λ l. has (cond (starts_with_none l (length blocks)) all (killed_in blocks b)) e) none ∙ inside) not_here
  missing_reach e b inside lt (after_kill killed not_here) = generates e b lt (elim (cases_Bool (starts b)) [
    | inl none ↦ ap (λ t. has (cond t all (killed_in blocks b)) e) none ∙ inside
    | inr some ↦ ap (λ t. has (cond t all (killed_in blocks b)) e) some ∙ killed
  ]) not_here
  missing_reach e b inside lt (after_path {p = p} source not_here before) = elim (cases_lt p (length blocks)) [
    | inl low ↦ onward (rw (at b) source) (rw (at b) not_here) (missing_reach e p inside low before)
    | inr past ↦ generates e b lt (ap (λ t. has (cond t all (killed_in blocks b)) e)
        (or_right (length (predecessors_of blocks b) == 0) _
        (past_some (length blocks) (predecessors_of blocks b) p source past)) ∙ inside) not_here
  ]

  -- the complements of what is missing are what is found
  pub are_found : (count : ℕ) (sets out : List (List ℕ)) → ((n : ℕ) → (has all n ≡ true) ↔ (n < count))
      → length sets ≡ length blocks → AreReached flows sets → AreComplements count sets out → AreFound blocks count out
  are_found count sets out below long reached complements = record {
    below = λ b e h. (parts b e h).1;
    missing = λ b e low h. elim (cases_lt b (length blocks)) [
      | inl lt ↦ reach_missing e b ((reached b e).0 (true_from_ne_false _ (λ lacks. clash (complements.each b (omega (arith, lt, long)) e ∙ and_true _ _ (lt-ltb e count low) lacks) h)))
      | inr past ↦ past_end b e past
    ];
    found = λ b e h lost. let p = parts b e h in clash ((reached b e).1 (missing_reach e b ((below e).1 p.1) p.0 lost)) p.2;
  }
    where
      parts : (b e : ℕ) → has (set_at out b) e ≡ true → (b < length blocks) × (e < count) × (has (set_at sets b) e ≡ false)
      parts b e h = elim (cases_lt b (length blocks)) [
        | inl lt ↦ let p = of_and _ _ (sym (complements.each b (omega (arith, lt, long)) e) ∙ h) in (lt, ltb-true e count p.0, p.1)
        | inr past ↦ absurd (true≢false (sym h ∙ ap (λ s. has s e) (get_or_past out b [] (let same = complements.long in omega (arith, past, same, long)))))
      ]

-- ---- one set after another

pub complements_on : (count i : ℕ) (first old new : List (List ℕ)) → IsComplementedBelow count i first old
    → length new ≡ length old → ((c : ℕ) → c ≢ i → set_at new c ≡ set_at old c)
    → IsComplement count (set_at old i) (set_at new i) → IsComplementedBelow count (i + 1) first new
complements_on count i first old new c long others here = record {
  long = long ∙ c.long;
  done = λ b lt e. elim (cases_eq b i) [
    | inl is ↦ rw is (here e ∙ ap (λ s. nat_lt e count && not (has s e)) (c.rest i (omega arith)))
    | inr other ↦ ap (λ s. has s e) (others b other) ∙ c.done b (omega (arith, lt, other)) e
  ];
  rest = λ b from. others b (λ is. omega (arith, is, from)) ∙ c.rest b (omega (arith, from));
}
