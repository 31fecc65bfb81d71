-- What a walk over a graph keeps, and what it comes to.
use Rattle.std.proofs.Common.{◌≡◌, ℕ, ◌+◌, ◌-◌, ◌*◌, ◌<◌, ◌≤◌, Bool, not, true, false, ◌||◌, cond, eqb, ltb, ◌⊎◌, inl, inr}
use Rattle.std.proofs.Common.{List, [], ◌∷◌, ◌++◌, length, Option, Some, None, refl, sym, ap, ◌∙◌, ◌↔◌, arith}
use Rattle.std.proofs.lemmas.Bool.{eqb-true, eq-eqb, ne_eqb, not-false, not-true, true≢false, cases_eq, or_cases, or_left, or_parts, or_right}
use Rattle.std.proofs.{lemmas.List.{append-nil, get_or_past, length_push}, lemmas.List.Folds.list_any-append}
use Rattle.std.proofs.lemmas.List.Sums.{sum_by-cons, sum_by_push}
use Rattle.std.specs.{Iterator.{Yields, YieldsThen, Drains, YieldsFirst}, List.sum_by}
use Rattle.bit_set.specs.Sets.{has, put, IsAscending}
use Rattle.graph_walks.specs.{Explored.TakesOn, Paths.{successors, Edge, Path, here, onward}}

or_around : (a b c : Bool) → (a || (b || c)) ≡ ((b || (a || false)) || c)
or_around a b c = grind arith

or_behind : (a b c : Bool) → (a ≡ true → (b || c) ≡ true) → (b || c) ≡ ((b || (a || false)) || c)
or_behind a b c h = grind (arith, h)

-- a number at the end of a list
has-push : (xs : List ℕ) (x v : ℕ) → has (xs ++ x ∷ []) v ≡ (has xs v || (eqb x v || false))
has-push xs x v = list_any-append (λ m. eqb m v) xs (x ∷ [])

pub kept_by_push : (xs : List ℕ) (x v : ℕ) → has xs v ≡ true → has (xs ++ x ∷ []) v ≡ true
kept_by_push xs x v h = has-push xs x v ∙ or_left (has xs v) _ h

pub pushed : (xs : List ℕ) (x v : ℕ) → eqb x v ≡ true → has (xs ++ x ∷ []) v ≡ true
pushed xs x v h = has-push xs x v ∙ or_right (has xs v) _ (or_left (eqb x v) false h)

pub of_push : (xs : List ℕ) (x v : ℕ) → has (xs ++ x ∷ []) v ≡ true → (has xs v ≡ true) ⊎ (eqb x v ≡ true)
of_push xs x v h =
    elim (or_cases (has xs v) _ (sym (has-push xs x v) ∙ h)) [
      | inl before ↦ inl before
      | inr last ↦ elim (or_cases (eqb x v) false last) [ inl is ↦ inr is | inr none ↦ absurd (true≢false (sym none)) ]
    ]

-- what a new number adds to a sum over a set
pub sum_by-put : (weigh : ℕ → ℕ) (s : List ℕ) (n : ℕ) → has s n ≡ false → sum_by weigh (put s n) ≡ sum_by weigh s + weigh n
sum_by-put weigh [] n absent = refl
sum_by-put weigh (x ∷ xs) n absent =
    let none = or_parts (eqb x n) (has xs n) absent in
    let other : eqb x n ≡ false = none.0 in
    let rest : sum_by weigh (put xs n) ≡ sum_by weigh xs + weigh n = sum_by-put weigh xs n none.1 in
    rw other (elim (ltb n x) as (λ b. sum_by weigh (cond b (n ∷ x ∷ xs) (x ∷ put xs n)) ≡ sum_by weigh (x ∷ xs) + weigh n) [
      | true ↦ omega (arith, sum_by-cons weigh n (x ∷ xs))
      | false ↦ omega (arith, sum_by-cons weigh x (put xs n), sum_by-cons weigh x xs, rest)
    ])

-- as long as its numbers weigh one each
pub length_by : (xs : List ℕ) → sum_by (λ _. 1) xs ≡ length xs
length_by [] = refl
length_by (x ∷ xs) = omega (arith, sum_by-cons (λ _. 1) x xs, length_by xs)

-- ---- an item after the others

pub nothing_taken : (old stack : List ℕ) → TakesOn [] old stack old stack
nothing_taken old stack = record { members = λ v. refl; kept = λ v h. h; fresh = λ v h. inl h; given = λ v h. inl h; weight = λ weigh. refl; more = omega arith }

module _ (items old stack mid piled : List ℕ) (x : ℕ) (t : TakesOn items old stack mid piled) (has-put : (s : List ℕ) (n m : ℕ) → has (put s n) m ≡ (eqb n m || has s m)) where
  pub taken_new : has mid x ≡ false → TakesOn (items ++ x ∷ []) old stack (put mid x) (piled ++ x ∷ [])
  taken_new absent = record {
    members = λ v. has-put mid x v ∙ ap (λ b. eqb x v || b) (t.members v) ∙ or_around (eqb x v) (has items v) (has old v) ∙ ap (λ b. b || has old v) (sym (has-push items x v));
    kept = λ v h. kept_by_push piled x v (t.kept v h);
    fresh = λ v h. elim (or_cases (eqb x v) (has mid v) (sym (has-put mid x v) ∙ h)) [
      | inl is ↦ inr (pushed piled x v is)
      | inr before ↦ elim (t.fresh v before) [ inl o ↦ inl o | inr on ↦ inr (kept_by_push piled x v on) ]
    ];
    given = λ v h. elim (of_push piled x v h) [
      | inl before ↦ elim (t.given v before) [ inl o ↦ inl o | inr i ↦ inr (kept_by_push items x v i) ]
      | inr is ↦ inr (pushed items x v is)
    ];
    weight = λ weigh. omega (arith, sum_by_push weigh piled x, sum_by-put weigh mid x absent, t.weight weigh);
    more = let longer : sum_by (λ _. 1) (put mid x) ≡ sum_by (λ _. 1) mid + 1 = sum_by-put (λ _. 1) mid x absent in omega (arith, longer, length_by (put mid x), length_by mid, t.more);
  }

  pub taken_again : has mid x ≡ true → put mid x ≡ mid → TakesOn (items ++ x ∷ []) old stack (put mid x) piled
  taken_again present same = rw same (record {
    members = λ v. t.members v ∙ or_behind (eqb x v) (has items v) (has old v)
        (λ is. sym (t.members v) ∙ ap (has mid) (sym (eqb-true x v is)) ∙ present)
        ∙ ap (λ b. b || has old v) (sym (has-push items x v));
    kept = t.kept;
    fresh = t.fresh;
    given = λ v h. elim (t.given v h) [ inl o ↦ inl o | inr i ↦ inr (kept_by_push items x v i) ];
    weight = t.weight;
    more = t.more;
  })

-- a number that is in goes in without a change
pub put_present : (s : List ℕ) (n : ℕ) → ((s : List ℕ) (n m : ℕ) → has (put s n) m ≡ (eqb n m || has s m))
    → ((s : List ℕ) (n : ℕ) → IsAscending s → IsAscending (put s n))
    → ((s t : List ℕ) → IsAscending s → IsAscending t → ((n : ℕ) → has s n ≡ has t n) → s ≡ t) → IsAscending s
    → has s n ≡ true → put s n ≡ s
put_present s n has-put up-put same up present =
    same (put s n) s (up-put s n up) up (λ m. has-put s n m ∙ elim (cases_eq n m) [
      | inl e ↦ let it : has s m ≡ true = ap (has s) (sym e) ∙ present in or_right (eqb n m) (has s m) it ∙ sym it
      | inr other ↦ ap (λ b. b || has s m) (ne_eqb n m other)
    ])

-- ---- what an iterator gives that gives a list in order

module _ {S : Type 0} (next : S → Option ℕ → S → Type 0) (left : S → List ℕ) (in_order : (s t : S) (item : Option ℕ) → next s item t → YieldsFirst left s item t) where
  pub given_first : (s t : S) (xs : List ℕ) → Yields next s xs t → left s ≡ xs ++ left t
  given_first s t [] same = ap left same
  given_first s t (x ∷ xs) h = in_order s h.0 (Some x) h.1 ∙ ap (λ l. x ∷ l) (given_first h.0 t xs h.2)

  pub given_all : (s : S) (xs : List ℕ) → Drains next s xs → xs ≡ left s
  given_all s xs h =
      let ended : left h.1.0 ≡ [] = (in_order h.1.0 h.0 None h.1.2).0 in
      sym (given_first s h.1.0 xs h.1.1 ∙ ap (λ l. xs ++ l) ended ∙ append-nil xs)

  pub given_at_last : (s : S) (xs : List ℕ) (x : ℕ) (u : S) → YieldsThen next s xs (Some x) u → has (left s) x ≡ true
  given_at_last s xs x u h =
      let last : left h.0 ≡ x ∷ left u = in_order h.0 u (Some x) h.2 in
      ap (λ l. has l x) (given_first s h.0 xs h.1 ∙ ap (λ l. xs ++ l) last) ∙ list_any-append (λ m. eqb m x) xs (x ∷ left u) ∙ or_right (has xs x) _ (or_left (eqb x x) _ (eq-eqb x x refl))

-- ---- the walk itself

-- What was reached from the first nodes, with the nodes on the stack not yet expanded.
pub record Explores (rows : List (List ℕ)) (first reached stack : List ℕ) : Type 0 where
  pub from : (v : ℕ) → has first v ≡ true → has reached v ≡ true
  pub sound : (v : ℕ) → has reached v ≡ true → (s : ℕ) × (has first s ≡ true) × Path rows s v
  pub pending : (v : ℕ) → has stack v ≡ true → has reached v ≡ true
  pub done : (u w : ℕ) → has reached u ≡ true → Edge rows u w → (has reached w ≡ true) ⊎ (has stack u ≡ true)

pub explores_first : (rows : List (List ℕ)) (first : List ℕ) → Explores rows first first first
explores_first rows first = record { from = λ v h. h; sound = λ v h. (v, h, here); pending = λ v h. h; done = λ u w h edge. inr h }

module _ (rows : List (List ℕ)) (first reached stack : List ℕ) (node : ℕ) (e : Explores rows first reached (stack ++ node ∷ [])) where
  on_stack : has reached node ≡ true
  on_stack = e.pending node (pushed stack node node (eq-eqb node node refl))

  -- an edge of the node in hand ends a path
  pub edge_of_node : (v : ℕ) → has (successors rows node) v ≡ true → (s : ℕ) × (has first s ≡ true) × Path rows s v
  edge_of_node v edge = let path = e.sound node on_stack in (path.0, path.1, onward path.2 edge)

  pub explores_on : (new new_stack : List ℕ) → TakesOn (successors rows node) reached stack new new_stack → Explores rows first new new_stack
  explores_on new new_stack t = record {
    from = λ v h. stays v (e.from v h);
    sound = λ v h. elim (or_cases (has (successors rows node) v) (has reached v) (sym (t.members v) ∙ h)) [ inl edge ↦ edge_of_node v edge | inr before ↦ e.sound v before ];
    pending = λ v h. elim (t.given v h) [
      | inl before ↦ stays v (e.pending v (kept_by_push stack node v before))
      | inr item ↦ enters v item
    ];
    done = λ u w h edge. elim (t.fresh u h) [
      | inl before ↦ elim (e.done u w before edge) [
        | inl reaches ↦ inl (stays w reaches)
        | inr waits ↦ elim (of_push stack node u waits) [
          | inl below ↦ inr (t.kept u below)
          | inr is ↦ inl (enters w (ap (λ n. has (successors rows n) w) (eqb-true node u is) ∙ edge))
        ]
      ]
      | inr waits ↦ inr waits
    ];
  }
    where
      stays : (v : ℕ) → has reached v ≡ true → has new v ≡ true
      stays v h = t.members v ∙ or_right (has (successors rows node) v) (has reached v) h

      enters : (v : ℕ) → has (successors rows node) v ≡ true → has new v ≡ true
      enters v h = t.members v ∙ or_left (has (successors rows node) v) (has reached v) h

-- ---- how much it did

-- The nodes expanded and those on the stack are those reached, and so are their edges.
pub record Counts (rows : List (List ℕ)) (nodes_before edges_before : ℕ) (reached stack : List ℕ) (nodes edges : ℕ) : Type 0 where
  pub expanded : nodes + length stack ≡ nodes_before + length reached
  pub looked_at : edges + sum_by (λ v. length (successors rows v)) stack ≡ edges_before + sum_by (λ v. length (successors rows v)) reached

module _ (rows : List (List ℕ)) (reached stack new new_stack : List ℕ) (node : ℕ) (t : TakesOn (successors rows node) reached stack new new_stack) where
  as_many : length new_stack + length reached ≡ length stack + length new
  as_many = let ones = t.weight (λ _. 1) in omega (arith, ones, length_by new_stack, length_by reached, length_by stack, length_by new)

  pub counts_on : (nodes_before edges_before nodes edges nodes_after edges_after : ℕ) → nodes_after ≡ nodes + 1
      → edges_after ≡ edges + length (successors rows node)
      → Counts rows nodes_before edges_before reached (stack ++ node ∷ []) nodes edges
      → Counts rows nodes_before edges_before new new_stack nodes_after edges_after
  counts_on nodes_before edges_before nodes edges nodes_after edges_after one_more each h = record {
    expanded = let before = h.expanded in omega (arith, one_more, before, length_push stack node, as_many);
    looked_at =
        let before = h.looked_at in
        let weight = t.weight (λ v. length (successors rows v)) in
        let pushed_on : sum_by (λ v. length (successors rows v))
        (stack ++ node ∷ []) ≡ sum_by (λ v. length (successors rows v))
        stack + length (successors rows node) = sum_by_push (λ v. length (successors rows v)) stack node in
        omega (arith, each, before, weight, pushed_on);
  }

  pub nearer_end : (limit : ℕ) → length new < limit → length new_stack + 2 * (limit - length new) < length (stack ++ node ∷ []) + 2 * (limit - length reached)
  nearer_end limit few = let more = t.more in omega (arith, few, more, as_many, length_push stack node)

-- a node past the last row has no edges
pub no_row : (rows : List (List ℕ)) (node : ℕ) → length rows ≤ node → successors rows node ≡ []
no_row rows node past = get_or_past rows node [] past

-- a number is new or not
pub is_absent : (new old : Bool) → new ≡ not old → new ≡ true → old ≡ false
is_absent new old e h = not-true old (sym e ∙ h)

pub is_present : (new old : Bool) → new ≡ not old → new ≡ false → old ≡ true
is_present new old e h = not-false old (sym e ∙ h)

-- with nothing to expand, each path from the first nodes was followed
pub explored : (rows : List (List ℕ)) (first reached : List ℕ) → Explores rows first reached [] → (v : ℕ) → (has reached v ≡ true) ↔ ((s : ℕ) × (has first s ≡ true) × Path rows s v)
explored rows first reached e v = (e.sound v, λ p. follows p.0 v p.1 p.2)
  where
    follows : (s w : ℕ) → has first s ≡ true → Path rows s w → has reached w ≡ true
    follows s w h here = e.from s h
    follows s w h (onward {v = u} path edge) = elim (e.done u w (follows s u h path) edge) [ inl reaches ↦ reaches | inr none ↦ absurd (true≢false (sym none)) ]
