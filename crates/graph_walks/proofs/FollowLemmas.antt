-- The closure of a matrix by rows: what is in a row that took in others, by the edges of the first graph.
use Rattle.std.proofs.Common.{◌≡◌, ◌≢◌, ℕ, ◌+◌, ◌<◌, ◌≤◌, true, false, ◌&&◌, ◌||◌, eqb, leb, List, [], ◌∷◌, length, refl, sym, ap, subst, ◌∙◌, arith, inl, inr}
use Rattle.std.proofs.lemmas.Bool.{Decides.nat_tests, and_parts, cases_eq, cases_lt, eq-eqb, le-leb, leb-true, or_cases, or_left, or_right, true≢false}
use Rattle.bit_set.specs.Sets.{AscendsFrom, IsAscending, has, those_from}
use Rattle.bit_matrix.specs.Matrices.{ChangesRow, Matrix, has_at, row_of}
use Rattle.graph_walks.specs.{Closed.{Follows, HasNoneIn, IsClosed, IsClosureOf, IsOnTheWay}, Paths.{successors, Edge, LeadsTo, Path, here, onward}}
use Rattle.graph_walks.proofs.CloseLemmas.{edge_within, lead_on, none_on_the_way, on_the_way}

-- ---- the least of a row

none_before : (low : ℕ) (xs : List ℕ) → AscendsFrom low xs → (n : ℕ) → n < low → has xs n ≡ false
none_before low [] up n below = refl
none_before low (x ∷ xs) up n below = let rest = none_before (x + 1) xs up.1 n in grind (arith, nat_tests, rest, up.0, below)

module _ (s : List ℕ) (from : ℕ) (members : (m : ℕ) → has (those_from s from) m ≡ (leb from m && has s m)) where
  from_on : (m : ℕ) → from ≤ m → has (those_from s from) m ≡ has s m
  from_on m above = members m ∙ ap (λ b. b && has s m) (le-leb from m above)

  pub first_is_in : (first : ℕ) (rest : List ℕ) → those_from s from ≡ first ∷ rest → (from ≤ first) × (has s first ≡ true)
  first_is_in first rest at =
      let both = and_parts (leb from first) (has s first) (sym (members first) ∙ ap (λ xs. has xs first) at ∙ or_left (eqb first first) (has rest first) (eq-eqb first first refl)) in
      (leb-true from first both.0, both.1)

  pub none_up_to : (first : ℕ) (rest : List ℕ) (to : ℕ) → IsAscending (those_from s from) → those_from s from ≡ first ∷ rest → to ≤ first → HasNoneIn s from to
  none_up_to first rest to ascends at low m above below =
      let up : AscendsFrom 0 (first ∷ rest) = rw at at ascends in
      sym (from_on m above) ∙ ap (λ xs. has xs m) at ∙ none_before first (first ∷ rest) (omega arith, up.1) m (omega (arith, below, low))

  pub none_at_all : (to : ℕ) → those_from s from ≡ [] → HasNoneIn s from to
  none_at_all to none m above below = sym (from_on m above) ∙ ap (λ xs. has xs m) none

-- ---- a row that follows the edges

module _ (graph : List (List ℕ)) (u : ℕ) where
  pub follows_none : (nodes : List ℕ) → ((v : ℕ) → Edge graph u v → has nodes v ≡ true) → Follows graph u 0 nodes
  follows_none nodes kept = record { start = kept; onward = λ m v lt is e. absurd (omega (arith, lt)) }

  -- the bound goes up where no node of the set is
  pub follows_past : (nodes : List ℕ) (from to : ℕ) → HasNoneIn nodes from to → Follows graph u from nodes → Follows graph u to nodes
  follows_past nodes from to none f = record {
    start = f.start;
    onward = λ m v lt is e. elim (cases_lt m from) [
      | inl low ↦ f.onward m v low is e
      | inr high ↦ absurd (true≢false (sym is ∙ none m high lt))
    ];
  }

  -- and past u itself
  pub follows_itself : (nodes : List ℕ) → Follows graph u u nodes → Follows graph u (u + 1) nodes
  follows_itself nodes f = record {
    start = f.start;
    onward = λ m v lt is e. elim (cases_eq m u) [
      | inl own ↦ f.start v (ap (λ n. has (successors graph n) v) (sym own) ∙ e)
      | inr other ↦ f.onward m v (omega (arith, lt, other)) is e
    ];
  }

  -- and past a node whose row was taken in
  pub follows_taken : (node : ℕ) (nodes via now : List ℕ) → ((v : ℕ) → has now v ≡ (has nodes v || has via v))
      → Follows graph node node via → Follows graph u node nodes → Follows graph u (node + 1) now
  follows_taken node nodes via now taken g f = record {
    start = λ v e. first v (f.start v e);
    onward = λ m v lt is e. elim (cases_eq m node) [
      | inl own ↦ second v (g.start v (ap (λ n. has (successors graph n) v) (sym own) ∙ e))
      | inr other ↦
          let low : m < node = omega (arith, lt, other) in
          elim (or_cases (has nodes m) (has via m) (sym (taken m) ∙ is)) [
            | inl before ↦ first v (f.onward m v low before e)
            | inr more ↦ second v (g.onward m v low more e)
          ]
    ];
  }
    where
      first : (v : ℕ) → has nodes v ≡ true → has now v ≡ true
      first v is = taken v ∙ or_left (has nodes v) (has via v) is

      second : (v : ℕ) → has via v ≡ true → has now v ≡ true
      second v is = taken v ∙ or_right (has nodes v) (has via v) is

-- the row of a node that is below follows the edges still, also where the node is that of the row that changes
pub follows_via : (graph : List (List ℕ)) (old now : Matrix) (row node : ℕ)
    → ((q : ℕ) → q ≢ row → row_of now q ≡ row_of old q) → Follows graph node node (row_of old node)
    → Follows graph row node (row_of now row) → Follows graph node node (row_of now node)
follows_via graph old now row node others was own = elim (cases_eq node row) [
  | inl is ↦ subst (λ k. Follows graph k node (row_of now k)) (sym is) own
  | inr other ↦ rw (others node other) was
]

-- ---- one row takes in another

module _ (old new : Matrix) (node row : ℕ) (there : has_at old row node ≡ true) (change : ChangesRow old new row (λ c. has_at old row c || has_at old node c)) where
  pub union_on_the_way : IsOnTheWay old.rows new.rows
  union_on_the_way = on_the_way old.rows new.rows kept within
    where
      kept : (u v : ℕ) → Edge old.rows u v → Edge new.rows u v
      kept u v e = elim (cases_eq u row) [
        | inl is ↦ ap (λ k. has_at new k v) is ∙ change.row v ∙ or_left (has_at old row v) (has_at old node v) (ap (λ k. has_at old k v) (sym is) ∙ e)
        | inr other ↦ ap (λ xs. has xs v) (change.others u other) ∙ e
      ]

      to_row : (v : ℕ) → has_at new row v ≡ true → LeadsTo old.rows row v
      to_row v e = elim (or_cases (has_at old row v) (has_at old node v) (sym (change.row v) ∙ e)) [
        | inl before ↦ (row, here, before)
        | inr more ↦ (node, onward here there, more)
      ]

      within : (u v : ℕ) → Edge new.rows u v → LeadsTo old.rows u v
      within u v e = elim (cases_eq u row) [
        | inl is ↦ rw is (to_row v (ap (λ k. has_at new k v) (sym is) ∙ e))
        | inr other ↦ (u, here, ap (λ xs. has xs v) (sym (change.others u other)) ∙ e)
      ]

pub further_on_the_way : (a b c : List (List ℕ)) → IsOnTheWay a b → IsOnTheWay b c → IsOnTheWay a c
further_on_the_way a b c first second = on_the_way a c (λ u v e. second.kept u v (first.kept u v e)) (λ u v e. (first.same_paths u v).0 (second.within u v e))

-- ---- all rows

-- the first pass: the rows before this one follow the edges up to themselves, the others have them
pub record FollowsBefore (old new : Matrix) (row : ℕ) : Type 0 where
  pub before : (j : ℕ) → j < row → Follows old.rows j j (row_of new j)
  pub way : IsOnTheWay old.rows new.rows

-- the second pass: the rows before this one follow all edges, the others those up to themselves
pub record FollowsAll (old new : Matrix) (row : ℕ) : Type 0 where
  pub before : (j : ℕ) → j < row → Follows old.rows j (length old.rows) (row_of new j)
  pub after : (j : ℕ) → row ≤ j → j < length old.rows → Follows old.rows j j (row_of new j)
  pub way : IsOnTheWay old.rows new.rows

pub follows_first : (old : Matrix) → FollowsBefore old old 0
follows_first old = record { before = λ j lt. absurd (omega (arith, lt)); way = none_on_the_way old.rows }

module _ (old now new : Matrix) (row : ℕ) (others : (q : ℕ) → q ≢ row → row_of new q ≡ row_of now q) (way : IsOnTheWay now.rows new.rows) where
  pub follows_before_on : ((graph : List (List ℕ)) → ((j : ℕ) → 0 ≤ j → j < row → Follows graph j j (row_of now j)) → Follows graph row 0 (row_of now row) → Follows graph row row (row_of new row))
      → FollowsBefore old now row → FollowsBefore old new (row + 1)
  follows_before_on follows f = record {
    before = λ j lt. elim (cases_eq j row) [
      | inl is ↦ rw is (follows old.rows (λ j above low. f.before j low) (follows_none old.rows row (row_of now row) (f.way.kept row)))
      | inr other ↦ rw (others j other) (f.before j (omega (arith, lt, other)))
    ];
    way = further_on_the_way old.rows now.rows new.rows f.way way;
  }

  pub follows_all_on : ((graph : List (List ℕ))
      → ((j : ℕ) → row + 1 ≤ j → j < length old.rows → Follows graph j j (row_of now j))
      → Follows graph row (row + 1) (row_of now row) → Follows graph row (length old.rows) (row_of new row))
      → row < length old.rows → FollowsAll old now row → FollowsAll old new (row + 1)
  follows_all_on follows inside f = record {
    before = λ j lt. elim (cases_eq j row) [
      | inl is ↦ rw is (follows old.rows (λ j above low. f.after j (omega (arith, above)) low) (follows_itself old.rows row (row_of now row) (f.after row (omega arith) inside)))
      | inr other ↦ rw (others j other) (f.before j (omega (arith, lt, other)))
    ];
    after = λ j above low. rw (others j (λ is. omega (arith, is, above))) (f.after j (omega (arith, above)) low);
    way = further_on_the_way old.rows now.rows new.rows f.way way;
  }

pub follows_again : (old new : Matrix) (rows : ℕ) → rows ≡ length old.rows → FollowsBefore old new rows → FollowsAll old new 0
follows_again old new rows is f = record { before = λ j lt. absurd (omega (arith, lt)); after = λ j above low. f.before j (omega (arith, is, low)); way = f.way }

module _ (old new : Matrix) (rows : ℕ) (is : rows ≡ length old.rows) (f : FollowsAll old new rows) where
  starts : (u x v : ℕ) → Path old.rows u x → Edge old.rows x v → u < length old.rows
  starts u x v here e = edge_within old.rows u v e
  starts u x v (onward {v = y} p d) e = starts u y x p d

  leads : (u x v : ℕ) → u < rows → Path old.rows u x → Edge old.rows x v → Edge new.rows u v
  leads u x v low here e = (f.before u low).start v e
  leads u x v low (onward {v = y} p d) e = (f.before u low).onward x v (edge_within old.rows x v e) (leads u y x low p d) e

  pub follows_closure : IsClosureOf old.rows new.rows
  follows_closure u v = (f.way.within u v, λ h. leads u h.0 v (let inside = starts u h.0 v h.1 h.2 in omega (arith, is, inside)) h.1 h.2)

  pub follows_closed : IsClosed new.rows
  follows_closed u v w a b = (follows_closure u w).1 (lead_on old.rows u v w (f.way.within u v a) (f.way.within v w b))
