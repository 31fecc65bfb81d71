-- What one visit does to a set.
use Rattle.std.proofs.Common.{◌≡◌, ◌≢◌, ℕ, ◌+◌, ◌<◌, ◌≤◌, Bool, true, false, not, ◌||◌, ◌&&◌, cond, eqb, suc, zero, set}
use Rattle.std.proofs.Common.{take, inl, inr, List, [], ◌∷◌, ◌++◌, length, map, get_or, refl, sym, ap, ◌∙◌, arith}
use Rattle.std.proofs.{lemmas.Bool.{and_parts, not-false, not-true, true≢false, cases_eq, eq-eqb, eqb-true, or_cases, or_left, or_right}, Math.Bool.{or-false, or_assoc}}
use Rattle.std.proofs.lemmas.List.{get_or_default, get_or_past, get_or-set_other, get_or-set_same, length-map, length-set, map-append, map-set, take_more}
use Rattle.std.{specs.Cmp.Lexicographic.bytes_decides, proofs.{Math.ListN.get_or-map, Math.Seq.take-append_seam}}
use Rattle.bit_set.specs.{Bits.Bits, Members.IsUnionWithDifference, Order.same_sets, Sets.{elements, has}}
use Rattle.dataflow.specs.{Flow.{Flow, lists_of, set_at}, Worklist.{TakesIn, Transfers}}

-- ---- what is read of lists

pub mapped : {X Y : Type 0} (f : X → Y) (xs : List X) (i : ℕ) (x : X) (d : Y) → i < length xs → x ≡ get_or xs i x → get_or (map f xs) i d ≡ f x
mapped f xs i x d lt is = get_or_default (map f xs) i d (f x) (omega (arith, lt, length-map xs f)) ∙ get_or-map f xs i x ∙ ap f (sym is)

pub mapped_past : {X Y : Type 0} (f : X → Y) (xs : List X) (i : ℕ) (d : Y) → length xs ≤ i → get_or (map f xs) i d ≡ d
mapped_past f xs i d past = get_or_past (map f xs) i d (omega (arith, past, length-map xs f))

-- lists of one length that read the same
pub same_lists : (xs ys : List (List ℕ)) → length ys ≡ length xs → ((c : ℕ) → set_at ys c ≡ set_at xs c) → ys ≡ xs
same_lists [] [] long each = refl
same_lists [] (y ∷ ys) long each = absurd (omega (arith, long))
same_lists (x ∷ xs) [] long each = absurd (omega (arith, long))
same_lists (x ∷ xs) (y ∷ ys) long each =
    let head : y ≡ x = each 0 in
    let tail : ys ≡ xs = same_lists xs ys (omega (arith, long)) (λ c. each (suc c)) in
    cc

-- ---- a set is written

pub written : (sets : List Bits) (i : ℕ) (set_of : Bits) → i < length sets → set_at (lists_of (set sets i set_of)) i ≡ elements set_of.values
written sets i set_of lt = mapped (λ (s : Bits). elements s.values) (set sets i set_of) i set_of [] (omega (arith, lt, length-set sets i set_of)) (sym (get_or-set_same sets i set_of set_of lt))

pub others_stay : (sets : List Bits) (i : ℕ) (set_of : Bits) (c : ℕ) → c ≢ i → set_at (lists_of (set sets i set_of)) c ≡ set_at (lists_of sets) c
others_stay sets i set_of c other =
    ap (λ (l : List (List ℕ)). get_or l c []) (map-set (λ (s : Bits). elements s.values) sets i set_of)
    ∙ get_or-set_other (lists_of sets) i c (elements set_of.values) [] other

pub as_long : (sets : List Bits) (i : ℕ) (set_of : Bits) → length (lists_of (set sets i set_of)) ≡ length (lists_of sets)
as_long sets i set_of = omega (arith, length-map (set sets i set_of) (λ (s : Bits). elements s.values), length-set sets i set_of, length-map sets (λ (s : Bits). elements s.values))

-- what is read of the sets
pub read_set : (sets : List Bits) (s : ℕ) (it : Bits) → it ≡ get_or sets s (record { values = []; capacity = 0 }) → elements it.values ≡ set_at (lists_of sets) s
read_set sets s it is = ap (λ (r : Bits). elements r.values) is ∙ sym (get_or-map (λ (r : Bits). elements r.values) sets s (record { values = []; capacity = 0 }))

pub written_back : {X : Type 0} (new past : List X) (count : ℕ) → count ≡ length new → take count (new ++ past) ≡ new
written_back new past count is = ap (λ n. take n (new ++ past)) is ∙ take-append_seam new past

-- ---- members of lists

pub at_member : (xs : List ℕ) (i : ℕ) → i < length xs → has xs (get_or xs i 0) ≡ true
at_member [] i lt = absurd (omega (arith, lt))
at_member (x ∷ xs) zero lt = or_left (eqb x x) _ (eq-eqb x x refl)
at_member (x ∷ xs) (suc i) lt = or_right (eqb x (get_or xs i 0)) _ (at_member xs i (omega (arith, lt)))

pub and_true : (a b : Bool) → a ≡ true → b ≡ false → (a && not b) ≡ true
and_true a b is none = rw (is, none)

pub of_and : (a b : Bool) → (a && not b) ≡ true → (a ≡ true) × (b ≡ false)
of_and a b h = let parts = and_parts a (not b) h in (parts.0, not-true b parts.1)

-- ---- an item is pushed

pub push_mapped : {X Y Z : Type 0} (f : X → Z) (h : Y → Z) (xs : List X) (i : ℕ) (x : X) (ys : List Y) (y : Y)
    → i < length xs → x ≡ get_or xs i x → map h ys ≡ map f (take i xs) → h y ≡ f x
    → map h (ys ++ y ∷ []) ≡ map f (take (i + 1) xs)
push_mapped f h xs i x ys y lt is before now =
    let longer = take_more xs i x lt in
    map-append h ys (y ∷ []) ∙ ap (λ l. l ++ h y ∷ []) before ∙ ap (λ z. map f (take i xs) ++ z ∷ []) (now ∙ ap f is) ∙ sym (map-append f (take i xs) (get_or xs i x ∷ [])) ∙ ap (map f) (sym longer)

pub few_on : (sets : List (List ℕ)) (s : List ℕ) (limit : ℕ) → ((b : ℕ) → length (set_at sets b) < limit) → length s < limit → (b : ℕ) → length (set_at (sets ++ s ∷ []) b) < limit
few_on [] s limit few low zero = low
few_on [] s limit few low (suc b) = few b
few_on (x ∷ xs) s limit few low zero = few 0
few_on (x ∷ xs) s limit few low (suc b) = few_on xs s limit (λ c. few (suc c)) low b

pub few_pushed : (sets : List Bits) (new : Bits) (limit : ℕ) → ((b : ℕ) → length (set_at (lists_of sets) b) < limit)
    → length (elements new.values) < limit → (b : ℕ) → length (set_at (lists_of (sets ++ new ∷ [])) b) < limit
few_pushed sets new limit few low = rw (map-append (λ (r : Bits). elements r.values) sets (new ∷ [])) (few_on (lists_of sets) (elements new.values) limit few low)

-- ---- what the sets of some blocks have and is not killed

pub in_push : (xs : List ℕ) (x n : ℕ) → has (xs ++ x ∷ []) n ≡ (has xs n || eqb x n)
in_push [] x n = or-false (eqb x n)
in_push (y ∷ ys) x n = ap (λ b. eqb y n || b) (in_push ys x n) ∙ sym (or_assoc (eqb y n) (has ys n) (eqb x n))

module _ (sources killed : List ℕ) (sets : List (List ℕ)) (old into : List ℕ) (t : Transfers sources killed sets old into) where
  -- one more source
  pub transfers_on : (s : ℕ) (new : List ℕ) → IsUnionWithDifference into (set_at sets s) killed new → Transfers (sources ++ s ∷ []) killed sets old new
  transfers_on s new members v = (
    λ h. elim (or_cases (has into v) (has (set_at sets s) v && not (has killed v)) (sym (members v) ∙ h)) [
      | inl before ↦ elim ((t v).0 before) [ inl was ↦ inl was | inr p ↦ inr ((p.0.0, in_push sources s p.0.0 ∙ or_left (has sources p.0.0) _ p.0.1, p.0.2), p.1) ]
      | inr now ↦ let p = of_and (has (set_at sets s) v) (has killed v) now in inr ((s, in_push sources s s ∙ or_right (has sources s) _ (eq-eqb s s refl), p.0), p.1)
    ],
    λ h. elim h [
      | inl was ↦ members v ∙ or_left (has into v) _ ((t v).1 (inl was))
      | inr p ↦ members v ∙ elim (or_cases (has sources p.0.0) (eqb s p.0.0) (sym (in_push sources s p.0.0) ∙ p.0.1)) [
        | inl before ↦ or_left (has into v) _ ((t v).1 (inr ((p.0.0, before, p.0.2), p.1)))
        | inr same ↦ or_right (has into v) _ (and_true _ _ (ap (λ n. has (set_at sets n) v) (eqb-true s p.0.0 same) ∙ p.0.2) p.1)
      ]
    ],
  )

  -- a source that is no block has no set
  pub transfers_past : (s : ℕ) → set_at sets s ≡ [] → Transfers (sources ++ s ∷ []) killed sets old into
  transfers_past s none = transfers_on s into (λ v. sym (or-false (has into v)) ∙ ap (λ r. has into v || (has r v && not (has killed v))) (sym none))

-- ---- whether something was new

pub same_on : (before now : Bool) (old into new : List ℕ) → (before ≡ false → into ≡ old) → now ≡ not (same_sets into new) → (before || now) ≡ false → new ≡ old
same_on true now old into new same told h = absurd (true≢false h)
same_on false now old into new same told h = sym ((bytes_decides into new).0 (not-false (same_sets into new) (sym told ∙ h))) ∙ same refl

pub grew_on : (before now : Bool) (old into new : List ℕ) → (before ≡ false → into ≡ old)
    → (before ≡ true → length old < length into) → length into + cond now 1 0 ≤ length new → (before || now) ≡ true
    → length old < length new
grew_on true now old into new same grew count h = let more = grew refl in omega (arith, more, count)
grew_on false true old into new same grew count h = let as_long : length into ≡ length old = ap length (same refl) in omega (arith, as_long, count)
grew_on false false old into new same grew count h = absurd (true≢false (sym h))

-- ---- the set of one block

-- A set is taken out of its place, and another put in there.
module _ (sets : List Bits) (b : ℕ) (none own : Bits) (lt : b < length sets) where
  pub put_back : set_at (lists_of (set (set sets b none) b own)) b ≡ elements own.values
  put_back = written (set sets b none) b own (omega (arith, lt, length-set sets b none))

  pub others_back : (c : ℕ) → c ≢ b → set_at (lists_of (set (set sets b none) b own)) c ≡ set_at (lists_of sets) c
  others_back c other = others_stay (set sets b none) b own c other ∙ others_stay sets b none c other

  pub as_many_back : length (lists_of (set (set sets b none) b own)) ≡ length (lists_of sets)
  as_many_back = as_long (set sets b none) b own ∙ as_long sets b none

  pub same_back : elements own.values ≡ set_at (lists_of sets) b → lists_of (set (set sets b none) b own) ≡ lists_of sets
  same_back same = same_lists (lists_of sets) (lists_of (set (set sets b none) b own)) as_many_back (λ c. elim (cases_eq c b) [
    | inl is ↦ ap (λ n. set_at (lists_of (set (set sets b none) b own)) n) is ∙ put_back ∙ same ∙ ap (λ n. set_at (lists_of sets) n) (sym is)
    | inr other ↦ others_back c other
  ])

-- The block's own set is empty while the others are read.
pub takes_transfer : (block : Flow) (b : ℕ) (old read new : List (List ℕ)) → length new ≡ length old → set_at read b ≡ []
    → ((c : ℕ) → c ≢ b → set_at read c ≡ set_at old c) → ((c : ℕ) → c ≢ b → set_at new c ≡ set_at old c)
    → Transfers block.sources block.killed read (set_at old b) (set_at new b) → TakesIn block b old new
takes_transfer block b old read new long none apart others t = record {
  long = long;
  others = others;
  kept = λ v h. (t v).1 (inl h);
  takes = λ v p passes. (t v).1 (elim (cases_eq p.0 b) [
    | inl is ↦ inl (ap (λ s. has (set_at old s) v) (sym is) ∙ p.2)
    | inr other ↦ inr ((p.0, p.1, ap (λ s. has s v) (apart p.0 other) ∙ p.2), passes)
  ]);
  only = λ v h. elim ((t v).0 h) [
    | inl was ↦ inl was
    | inr p ↦ elim (cases_eq p.0.0 b) [
      | inl is ↦ absurd (true≢false (sym p.0.2 ∙ ap (λ s. has (set_at read s) v) is ∙ ap (λ s. has s v) none))
      | inr other ↦ inr ((p.0.0, p.0.1, ap (λ s. has s v) (sym (apart p.0.0 other)) ∙ p.0.2), p.1)
    ]
  ];
}
