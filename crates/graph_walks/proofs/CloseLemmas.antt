-- Closing a graph by one node after another.
use Rattle.std.proofs.Common.{◌≡◌, ℕ, ◌+◌, ◌<◌, ◌≤◌, Bool, true, false, ◌||◌, eqb, max, ◌⊎◌, inl, inr, List, [], ◌∷◌, length, map, get_or, suc, All, refl, sym, ap, ◌∙◌, ◌↔◌, arith}
use Rattle.std.proofs.lemmas.Bool.{true≢false, cases_eq, cases_lt, eq-eqb, or_cases, or_left, or_right}
use Rattle.std.proofs.{Math.ListN.get_or-map, lemmas.List.{get_or_default, get_or_past, length-map}}
use Rattle.std.proofs.lemmas.List.Elements.{All-get_or, All-weaker}
use Rattle.bit_set.specs.{Bits.Bits, Sets.{elements, has, union}}
use Rattle.graph_walks.specs.Closed.{IsClosed, IsClosureOf, IsOnTheWay, Joins, row}
use Rattle.graph_walks.specs.Paths.{successors, Edge, Path, here, onward, LeadsTo, rows_of}

-- ---- paths end to end

pub path_on : (rows : List (List ℕ)) (u v w : ℕ) → Path rows u v → Path rows v w → Path rows u w
path_on rows u v w p here = p
path_on rows u v w p (onward {v = x} q edge) = onward (path_on rows u v x p q) edge

pub lead_on : (rows : List (List ℕ)) (u v w : ℕ) → LeadsTo rows u v → LeadsTo rows v w → LeadsTo rows u w
lead_on rows u v w (x, p, e) (y, q, f) = (y, path_on rows u v y (onward p e) q, f)

pub edge_within : (rows : List (List ℕ)) (u v : ℕ) → Edge rows u v → u < length rows
edge_within rows u v edge =
    elim (cases_lt u (length rows)) [
      | inl lt ↦ lt
      | inr past ↦ absurd (true≢false (sym (sym (ap (λ r. has r v) (get_or_past rows u [] past)) ∙ edge)))
    ]

-- ---- from the old graph to its closure

pub record Closes (old : List (List ℕ)) (nodes : ℕ) (new : List (List ℕ)) : Type 0 where
  pub kept : (u v : ℕ) → Edge old u v → Edge new u v
  pub within : (u v : ℕ) → Edge new u v → LeadsTo old u v
  -- through each of the first nodes an edge leads on
  pub through : (m u v : ℕ) → m < nodes → Edge new u m → Edge new m v → Edge new u v

pub closes_none : (rows : List (List ℕ)) → Closes rows 0 rows
closes_none rows = record { kept = λ u v e. e; within = λ u v e. (u, here, e); through = λ m u v lt a b. absurd (omega (arith, lt)) }

-- one step, or a part of it
pub record Passes (node : ℕ) (old new : List (List ℕ)) : Type 0 where
  pub keeps : (u v : ℕ) → Edge old u v → Edge new u v
  pub only : (u v : ℕ) → Edge new u v → Edge old u v ⊎ (Edge old u node × Edge old node v)

module _ (old rows new : List (List ℕ)) (node : ℕ) (c : Closes old node rows) (p : Passes node rows new) where
  pub on_kept : (u v : ℕ) → Edge old u v → Edge new u v
  on_kept u v e = p.keeps u v (c.kept u v e)

  pub on_within : (u v : ℕ) → Edge new u v → LeadsTo old u v
  on_within u v e = elim (p.only u v e) [ inl before ↦ c.within u v before | inr two ↦ lead_on old u node v (c.within u node two.0) (c.within node v two.1) ]

  to_node : (u : ℕ) → Edge new u node → Edge rows u node
  to_node u e = elim (p.only u node e) [ inl before ↦ before | inr two ↦ two.0 ]

  from_node : (v : ℕ) → Edge new node v → Edge rows node v
  from_node v e = elim (p.only node v e) [ inl before ↦ before | inr two ↦ two.1 ]

  pub closes_on : ((u v : ℕ) → Edge rows u node → Edge rows node v → Edge new u v) → Closes old (node + 1) new
  closes_on adds = record {
    kept = on_kept;
    within = on_within;
    through = λ m u v lt a b. elim (cases_eq m node) [
      | inl is ↦ adds u v (to_node u (ap (λ n. has (successors new u) n) (sym is) ∙ a)) (from_node v (ap (λ n. has (successors new n) v) (sym is) ∙ b))
      | inr other ↦ let below : m < node = omega (arith, lt, other) in goes_through m u v below (p.only u m a) (p.only m v b)
    ];
  }
    where
      goes_through : (m u v : ℕ) → m < node → Edge rows u m ⊎ (Edge rows u node × Edge rows node m) → Edge rows m v ⊎ (Edge rows m node × Edge rows node v) → Edge new u v
      goes_through m u v lt (inl um) (inl mv) = p.keeps u v (c.through m u v lt um mv)
      goes_through m u v lt (inl um) (inr two) = adds u v (c.through m u node lt um two.0) two.1
      goes_through m u v lt (inr one) (inl mv) = adds u v one.0 (c.through m node v lt one.1 mv)
      goes_through m u v lt (inr one) (inr two) = adds u v one.0 two.1

-- ---- what that comes to

pub on_the_way : (old new : List (List ℕ)) → ((u v : ℕ) → Edge old u v → Edge new u v) → ((u v : ℕ) → Edge new u v → LeadsTo old u v) → IsOnTheWay old new
on_the_way old new kept within = record { kept = kept; within = within; same_paths = λ u v. (leads_back u v, λ h. (h.0, goes u h.0 h.1, kept h.0 v h.2)) }
  where
    goes : (u v : ℕ) → Path old u v → Path new u v
    goes u v here = here
    goes u v (onward {v = x} p e) = onward (goes u x p) (kept x v e)

    back : (u v : ℕ) → Path new u v → Path old u v
    back u v here = here
    back u v (onward {v = x} p e) = let lead = within x v e in onward (path_on old u x lead.0 (back u x p) lead.1) lead.2

    leads_back : (u v : ℕ) → LeadsTo new u v → LeadsTo old u v
    leads_back u v (x, p, e) = let lead = within x v e in (lead.0, path_on old u x lead.0 (back u x p) lead.1, lead.2)

pub none_on_the_way : (rows : List (List ℕ)) → IsOnTheWay rows rows
none_on_the_way rows = on_the_way rows rows (λ u v e. e) (λ u v e. (u, here, e))

-- closed rows that have the edges of a graph have an edge wherever a path leads in it
pub least_closed : (old rows : List (List ℕ)) → IsClosed rows → ((u v : ℕ) → Edge old u v → Edge rows u v) → (u v : ℕ) → LeadsTo old u v → Edge rows u v
least_closed old rows closed kept u v h = leads u h.0 v h.1 (kept h.0 v h.2)
  where
    leads : (u v w : ℕ) → Path old u v → Edge rows v w → Edge rows u w
    leads u v w here e = e
    leads u v w (onward {v = x} p f) e = leads u x w p (closed x v w (kept x v f) e)

module _ (old new : List (List ℕ)) (nodes : ℕ) (all : length new ≤ nodes) (c : Closes old nodes new) where
  pub is_closed : IsClosed new
  is_closed u v w a b = let inside = edge_within new v w b in c.through v u w (omega (arith, inside, all)) a b

  pub is_closure : IsClosureOf old new
  is_closure u v = (c.within u v, least_closed old new is_closed c.kept u v)

-- in closed rows a path is an edge
module _ (rows : List (List ℕ)) (closed : IsClosed rows) where
  pub path_is_edge : (u w : ℕ) → LeadsTo rows u w → Edge rows u w
  path_is_edge u w h = least_closed rows rows closed (λ u v e. e) u w h

  pub within_by_paths : (a b : ℕ) (answer : Bool) → (answer ≡ true) ↔ ((v : ℕ) → Edge rows b v → Edge rows a v) → (answer ≡ true) ↔ ((v : ℕ) → LeadsTo rows b v → LeadsTo rows a v)
  within_by_paths a b answer h = (λ is v path. (a, here, h.0 is v (path_is_edge b v path)), λ each. h.1 (λ v e. path_is_edge a v (each v (b, here, e))))

  pub within_where_reached : (a b : ℕ) (answer : Bool) → (answer ≡ true) ↔ ((v : ℕ) → Edge rows b v → Edge rows a v) → LeadsTo rows a b → answer ≡ true
  within_where_reached a b answer h path = h.1 (λ v e. closed a b v (path_is_edge a b path) e)

-- ---- rows of sets

pub row_of : (rows : List Bits) (u : ℕ) → successors (rows_of rows) u ≡ elements (row rows u).values
row_of rows u = get_or-map (λ (set : Bits). elements set.values) rows u (record { values = []; capacity = 0 })

pub into_row : (rows : List Bits) (u v : ℕ) → Edge (rows_of rows) u v → has (elements (row rows u).values) v ≡ true
into_row rows u v e = ap (λ s. has s v) (sym (row_of rows u)) ∙ e

pub out_of_row : (rows : List Bits) (u v : ℕ) → has (elements (row rows u).values) v ≡ true → Edge (rows_of rows) u v
out_of_row rows u v e = ap (λ s. has s v) (row_of rows u) ∙ e

-- what is read of a row
pub read_row : (rows : List Bits) (u : ℕ) (x : Bits) → u < length rows → get_or rows u x ≡ row rows u
read_row rows u x lt = get_or_default rows u x (record { values = []; capacity = 0 }) lt

module _ (node : ℕ) (via : Bits) (rows new : List Bits) (is : via.values ≡ (row rows node).values) where
  of_via : (v : ℕ) → has (elements via.values) v ≡ true → Edge (rows_of rows) node v
  of_via v h = out_of_row rows node v (ap (λ values. has (elements values) v) (sym is) ∙ h)

  to_via : (v : ℕ) → Edge (rows_of rows) node v → has (elements via.values) v ≡ true
  to_via v h = ap (λ values. has (elements values) v) is ∙ into_row rows node v h

  pub passes : ((u : ℕ) → Joins node via (row rows u) (row new u) ⊎ (row new u ≡ row rows u)) → Passes node (rows_of rows) (rows_of new)
  passes some = record {
    keeps = λ u v e. out_of_row new u v (keeps_one u v (some u) (into_row rows u v e));
    only = λ u v e. only_one u v (some u) (into_row new u v e);
  }
    where
      keeps_one : (u v : ℕ) → Joins node via (row rows u) (row new u) ⊎ (row new u ≡ row rows u) → has (elements (row rows u).values) v ≡ true → has (elements (row new u).values) v ≡ true
      keeps_one u v (inl joined) h = joined.keeps v h
      keeps_one u v (inr same) h = ap (λ (set : Bits). has (elements set.values) v) same ∙ h

      only_one : (u v : ℕ) → Joins node via (row rows u) (row new u) ⊎ (row new u ≡ row rows u)
          → has (elements (row new u).values) v ≡ true
          → Edge (rows_of rows) u v ⊎ (Edge (rows_of rows) u node × Edge (rows_of rows) node v)
      only_one u v (inl joined) h = elim (joined.only v h) [ inl before ↦ inl (out_of_row rows u v before) | inr two ↦ inr (out_of_row rows u node two.0, of_via v two.1) ]
      only_one u v (inr same) h = inl (out_of_row rows u v (ap (λ (set : Bits). has (elements set.values) v) (sym same) ∙ h))

  pub adds_all : ((u : ℕ) → u < length rows → Joins node via (row rows u) (row new u)) → (u v : ℕ) → Edge (rows_of rows) u node → Edge (rows_of rows) node v → Edge (rows_of new) u v
  adds_all each u v a b =
      let inside = edge_within (rows_of rows) u node a in
      out_of_row new u v ((each u (omega (arith, inside, length-map rows (λ (set : Bits). elements set.values)))).adds v (into_row rows u node a) (to_via v b))

-- ---- one row

module _ (node : ℕ) (via old new : Bits) where
  pub joined : elements new.values ≡ union (elements old.values) (elements via.values)
      → length new.values ≡ max (length old.values) (length via.values)
      → (length via.values ≤ old.capacity → new.capacity ≡ old.capacity)
      → ((s t : List ℕ) (n : ℕ) → has (union s t) n ≡ (has s n || has t n)) → has (elements old.values) node ≡ true
      → Joins node via old new
  joined is long capacity members present = record {
    keeps = λ v h. member v ∙ or_left (has (elements old.values) v) _ h;
    only = λ v h. elim (or_cases (has (elements old.values) v) (has (elements via.values) v) (sym (member v) ∙ h)) [ inl before ↦ inl before | inr more ↦ inr (present, more) ];
    adds = λ v h more. member v ∙ or_right (has (elements old.values) v) _ more;
    long = omega (arith, long);
    capacity = capacity;
  }
    where
      member : (v : ℕ) → has (elements new.values) v ≡ (has (elements old.values) v || has (elements via.values) v)
      member v = ap (λ s. has s v) is ∙ members (elements old.values) (elements via.values) v

-- ---- lengths and capacities

pub record Spacious (m : ℕ) (first rows : List Bits) : Type 0 where
  pub long : (u : ℕ) → u < length first → length (row rows u).values ≤ m
  pub capacity : (u : ℕ) → u < length first → (row rows u).capacity ≡ (row first u).capacity
  pub enough : (u : ℕ) → u < length first → m ≤ (row first u).capacity

pub spacious_first : (m : ℕ) (rows : List Bits) → All (λ row. (length row.values ≤ m) × (m ≤ row.capacity)) rows → Spacious m rows rows
spacious_first m rows all = record { long = λ u lt. (at u lt).0; capacity = λ u lt. refl; enough = λ u lt. (at u lt).1 }
  where
    at : (u : ℕ) → u < length rows → (length (row rows u).values ≤ m) × (m ≤ (row rows u).capacity)
    at u lt = All-get_or (λ (r : Bits). (length r.values ≤ m) × (m ≤ r.capacity)) rows u (record { values = []; capacity = 0 }) lt all

pub long_on : (limit node : ℕ) (via : Bits) (rows new : List Bits) → length via.values ≤ limit
    → ((u : ℕ) → Joins node via (row rows u) (row new u) ⊎ (row new u ≡ row rows u)) → (u : ℕ)
    → length (row rows u).values ≤ limit → length (row new u).values ≤ limit
long_on limit node via rows new short some u low =
    elim (some u) [
      | inl j ↦ let long = j.long in omega (arith, short, low, long)
      | inr same ↦ let as_long : length (row new u).values ≡ length (row rows u).values = ap (λ (r : Bits). length r.values) same in omega (arith, low, as_long)
    ]

pub spacious_on : (m node : ℕ) (via : Bits) (first rows new : List Bits) → length via.values ≤ m
    → ((u : ℕ) → Joins node via (row rows u) (row new u) ⊎ (row new u ≡ row rows u)) → Spacious m first rows
    → Spacious m first new
spacious_on m node via first rows new short some r = record {
  long = λ u lt. long_on m node via rows new short some u (r.long u lt);
  capacity = λ u lt. stays u lt (some u) ∙ r.capacity u lt;
  enough = r.enough;
}
  where
    stays : (u : ℕ) → u < length first → Joins node via (row rows u) (row new u) ⊎ (row new u ≡ row rows u) → (row new u).capacity ≡ (row rows u).capacity
    stays u lt (inl j) = let has_capacity = r.capacity u lt in let enough = r.enough u lt in j.capacity (omega (arith, short, has_capacity, enough))
    stays u lt (inr same) = ap (λ (s : Bits). s.capacity) same

pub same_capacities : (m : ℕ) (first rows : List Bits) → length rows ≡ length first → Spacious m first rows → map (λ (r : Bits). r.capacity) rows ≡ map (λ (r : Bits). r.capacity) first
same_capacities m first rows long r = go first rows long r.capacity
  where
    go : (first rows : List Bits) → length rows ≡ length first
        → ((u : ℕ) → u < length first → (row rows u).capacity ≡ (row first u).capacity)
        → map (λ (r : Bits). r.capacity) rows ≡ map (λ (r : Bits). r.capacity) first
    go [] [] long each = refl
    go [] (x ∷ xs) long each = absurd (omega (arith, long))
    go (x ∷ xs) [] long each = absurd (omega (arith, long))
    go (x ∷ xs) (y ∷ ys) long each =
        let head : y.capacity ≡ x.capacity = each 0 (omega arith) in
        let tail : map (λ (r : Bits). r.capacity) ys ≡ map (λ (r : Bits). r.capacity) xs = go xs ys (omega (arith, long)) (λ u lt. each (suc u) (omega (arith, lt))) in
        cc

-- with the capacity for m none is full
pub no_row_is_full : (m node : ℕ) (via : Bits) (first rows : List Bits) → via.values ≡ (row rows node).values
    → Spacious m first rows → node < length first → (u : ℕ) → u < length first → (row rows u).capacity < length via.values → ⊥
no_row_is_full m node via first rows copied r inside u lt full =
    let long = r.long node inside in
    let as_long : length via.values ≡ length (row rows node).values = ap length copied in
    let same = r.capacity u lt in
    let enough = r.enough u lt in
    omega (arith, long, as_long, same, enough, full)

pub without_length : (rows : List Bits) → All (λ row. length row.values ≡ 0) rows → All (λ row. (length row.values ≤ 0) × (0 ≤ row.capacity)) rows
without_length rows none = All-weaker (λ (row : Bits). length row.values ≡ 0) (λ (row : Bits). (length row.values ≤ 0) × (0 ≤ row.capacity)) (λ row h. (omega (arith, h), omega arith)) rows none

-- ---- a row beside none

no_members : (xs : List ℕ) → ((v : ℕ) → has xs v ≡ true → false ≡ true) → xs ≡ []
no_members [] each = refl
no_members (x ∷ xs) each = absurd (true≢false (sym (each x (or_left (eqb x x) (has xs x) (eq-eqb x x refl)))))

pub within_none : (rows : List (List ℕ)) (a b : ℕ) (answer : Bool) → length rows ≤ b → (answer ≡ true) ↔ (successors rows a ≡ []) → (answer ≡ true) ↔ ((v : ℕ) → Edge rows a v → Edge rows b v)
within_none rows a b answer past h = (
  λ is v e. absurd (true≢false (sym (sym (ap (λ row. has row v) (h.0 is)) ∙ e))),
  λ each. h.1 (no_members (successors rows a) (λ v e. sym (ap (λ row. has row v) (get_or_past rows b [] past)) ∙ each v e)),
)
