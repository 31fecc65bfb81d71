-- Pairs of states that one word reaches in two tables.
use Rattle.std.proofs.Common.{◌≡◌, ℕ, ◌+◌, ◌*◌, ◌<◌, ◌≤◌, Bool, not, true, false, cond, ◌&&◌, ◌||◌, eqb, ltb, ◌⊎◌, inl, inr}
use Rattle.std.proofs.Common.{List, [], ◌∷◌, ◌++◌, length, append_assoc, get_or, reverse, refl, sym, ap, subst, ◌∙◌, ◌↔◌}
use Rattle.std.proofs.{Common.arith, Math.Bool.and-false, lemmas.Nat.row_fits}
use mathlib.Core.Bool.{beq}
use Rattle.std.proofs.lemmas.Bool.{true≢false, cases_eq, cases_lt, eq-eqb, eqb-true, lt-ltb, le-ltb, or_cases, or_left, or_right}
use Rattle.std.proofs.lemmas.List.{get_or_append_left, get_or_default, get_or_push, length_push, reverse-append}
use Rattle.bit_set.specs.Sets.{has}
use Rattle.bit_matrix.specs.Matrices.{ChangesRow, Matrix, has_at}
use Rattle.automata.specs.{Pairs.{does_accept, step_of, symbols_of, walk_from}, declared.equivalence.Pair.Pair}
use Rattle.automata.specs.Searching.{Explores, IsLinked, IsListed, Spells, first_pair, onward, pair_at, start}
use Rattle.automata.specs.Tables.{AcceptTheSame, IsAcceptedBy, IsAcceptedByOne, IsTable, IsWordOver, Table, end_from, next_state}
use Rattle.automata.proofs.{BuildLemmas.{one_place, place_inside}, NumberingLemmas.before_or_last}

-- ---- one step, and the state more

step_at : (t : Table) (state symbol : ℕ) → state < t.states → symbol < t.symbols → step_of t state symbol ≡ next_state t.symbols t.next state symbol
step_at t state symbol lt in_symbols = rw (lt-ltb state t.states lt, lt-ltb symbol t.symbols in_symbols)

step_past : (t : Table) (state symbol : ℕ) → t.symbols ≤ symbol → step_of t state symbol ≡ t.states
step_past t state symbol past = rw (le-ltb symbol t.symbols past, and-false (ltb state t.states))

step_from_past : (t : Table) (state symbol : ℕ) → t.states ≤ state → step_of t state symbol ≡ t.states
step_from_past t state symbol past = rw (le-ltb state t.states past)

-- no word leads on from the state more
stays : (t : Table) (word : List ℕ) → walk_from t t.states word ≡ t.states
stays t [] = refl
stays t (symbol ∷ word) = ap (λ state. walk_from t state word) (step_from_past t t.states symbol (omega arith)) ∙ stays t word

past_rejects : (t : Table) (state : ℕ) → t.states ≤ state → does_accept t state ≡ false
past_rejects t state past = ap (λ b. b && has t.accepting state) (le-ltb state t.states past)

stays_out : (t : Table) (word : List ℕ) → does_accept t (walk_from t t.states word) ≡ false
stays_out t word = rw (stays t word) (past_rejects t t.states (omega arith))

within_accepts : (t : Table) (state : ℕ) → state < t.states → does_accept t state ≡ has t.accepting state
within_accepts t state lt = ap (λ b. b && has t.accepting state) (lt-ltb state t.states lt)

-- ---- what a table accepts

accepted_from : (t : Table) (table : IsTable t.states t.symbols t.next) (word : List ℕ) (state : ℕ) → state < t.states
    → (does_accept t (walk_from t state word) ≡ true)
    ↔ (IsWordOver t.symbols word × (has t.accepting (end_from t.symbols t.next state word) ≡ true))
accepted_from t table [] state lt = ((λ h. (tt, sym (within_accepts t state lt) ∙ h)), (λ p. within_accepts t state lt ∙ p.1))
accepted_from t table (symbol ∷ word) state lt = elim (cases_lt symbol t.symbols) [
  | inl in_symbols ↦
      let inside = table.inside (state * t.symbols + symbol) (place_inside t.states t.symbols t.next state symbol table lt in_symbols) in
      let rest = accepted_from t table word (next_state t.symbols t.next state symbol) inside in
      let here = ap (λ s. does_accept t (walk_from t s word)) (step_at t state symbol lt in_symbols) in (
        (λ h. let p = rest.0 (sym here ∙ h) in ((in_symbols, p.0), p.1)),
        (λ p. here ∙ rest.1 (p.0.1, p.1)),
      )
  | inr past ↦
      let out = ap (λ s. does_accept t (walk_from t s word)) (step_past t state symbol past) ∙ stays_out t word in (
        (λ h. absurd (true≢false (sym h ∙ out))),
        (λ p. let in_symbols = p.0.0 in absurd (omega (arith, past, in_symbols))),
      )
]

pub accepted : (t : Table) (word : List ℕ) → IsTable t.states t.symbols t.next → (does_accept t (walk_from t 0 word) ≡ true) ↔ IsAcceptedBy t word
accepted t word table = accepted_from t table word 0 table.start

-- ---- one pair more

pair_before : (queue : List Pair) (p : Pair) (i : ℕ) → i < length queue → pair_at (queue ++ p ∷ []) i ≡ pair_at queue i
pair_before queue p i lt = get_or_append_left queue (p ∷ []) first_pair i lt

pair_last : (queue : List Pair) (p : Pair) (i : ℕ) → i ≡ length queue → pair_at (queue ++ p ∷ []) i ≡ p
pair_last queue p i is = get_or_push queue p first_pair i (sym is)

-- what is met after one pair more was met: that pair, or one of those before
met_before : (met new : Matrix) (p : Pair) (l r : ℕ) → ChangesRow met new p.left (λ c. eqb p.right c || has_at met p.left c)
    → has_at new l r ≡ true → ((p.left ≡ l) × (p.right ≡ r)) ⊎ (has_at met l r ≡ true)
met_before met new p l r change h = elim (cases_eq l p.left) [
  | inl is ↦ elim (or_cases (eqb p.right r) (has_at met p.left r) (sym (change.row r) ∙ ap (λ k. has_at new k r) (sym is) ∙ h)) [
    | inl same ↦ inl (sym is, eqb-true p.right r same)
    | inr before ↦ inr (ap (λ k. has_at met k r) is ∙ before)
  ]
  | inr other ↦ inr (ap (λ s. has s r) (sym (change.others l other)) ∙ h)
]

still_met : (met new : Matrix) (p : Pair) (l r : ℕ) → ChangesRow met new p.left (λ c. eqb p.right c || has_at met p.left c) → has_at met l r ≡ true → has_at new l r ≡ true
still_met met new p l r change h = elim (cases_eq l p.left) [
  | inl is ↦ ap (λ k. has_at new k r) is ∙ change.row r ∙ or_right (eqb p.right r) (has_at met p.left r) (ap (λ k. has_at met k r) (sym is) ∙ h)
  | inr other ↦ ap (λ s. has s r) (change.others l other) ∙ h
]

now_met : (met new : Matrix) (p : Pair) → ChangesRow met new p.left (λ c. eqb p.right c || has_at met p.left c) → has_at new p.left p.right ≡ true
now_met met new p change = change.row p.right ∙ or_left (eqb p.right p.right) _ (eq-eqb p.right p.right refl)

module _ (a b : Table) (queue : List Pair) (met : Matrix) (place : ℕ) (e : Explores a b queue met place) (new : Matrix)
    (p : Pair) (change : ChangesRow met new p.left (λ c. eqb p.right c || has_at met p.left c)) where
  -- a pair that was met before
  explores_old : has_at met p.left p.right ≡ true → Explores a b queue new place
  explores_old is_in = record {
    some = e.some;
    left_first = e.left_first;
    right_first = e.right_first;
    linked = e.linked;
    listed = λ l r h. elim (met_before met new p l r change h) [
      | inl same ↦ let is : has_at met l r ≡ has_at met p.left p.right = ap (has_at met l) (sym same.1) ∙ ap (λ k. has_at met k p.right) (sym same.0) in e.listed l r (is ∙ is_in)
      | inr before ↦ e.listed l r before
    ];
    closed = λ i symbol lt inside before. still_met met new p _ _ change (e.closed i symbol lt inside before);
  }

  module _ (fits : place ≤ length queue * symbols_of a b) (parent : p.parent < length queue)
      (left_is : p.left ≡ step_of a (pair_at queue p.parent).left p.symbol)
      (right_is : p.right ≡ step_of b (pair_at queue p.parent).right p.symbol) where
    linked_on : (i : ℕ) → 0 < i → i < length (queue ++ p ∷ []) → IsLinked a b (queue ++ p ∷ []) i
    linked_on i some lt = elim (before_or_last queue p i lt) [
      | inl below ↦
          let old = e.linked i some below in
          let same = pair_before queue p i below in
          let early : (pair_at queue i).parent < length queue = let before = old.before in omega (arith, before, below) in
          let parent_same = pair_before queue p (pair_at queue i).parent early in
          record {
            before = rw same old.before;
            left_is = rw (same, parent_same) old.left_is;
            right_is = rw (same, parent_same) old.right_is;
          }
      | inr last ↦
          let same = pair_last queue p i last in
          let parent_same = pair_before queue p p.parent parent in
          record {
            before = rw same (omega (arith, parent, last));
            left_is = rw (same, parent_same) left_is;
            right_is = rw (same, parent_same) right_is;
          }
    ]

    listed_on : (l r : ℕ) → has_at new l r ≡ true → IsListed (queue ++ p ∷ []) l r
    listed_on l r h = elim (met_before met new p l r change h) [
      | inl at ↦
          let same = pair_last queue p (length queue) refl in
          record {
            place = length queue;
            inside = omega (arith, length_push queue p);
            left_is = rw same at.0;
            right_is = rw same at.1;
          }
      | inr before ↦
          let old = e.listed l r before in
          let inside = old.inside in
          let same = pair_before queue p old.place inside in
          record {
            place = old.place;
            inside = omega (arith, inside, length_push queue p);
            left_is = rw same old.left_is;
            right_is = rw same old.right_is;
          }
    ]

    closed_on : (i symbol : ℕ) → i < length (queue ++ p ∷ []) → symbol < symbols_of a b → i * symbols_of a b + symbol < place
        → has_at new (step_of a (pair_at (queue ++ p ∷ []) i).left symbol)
        (step_of b (pair_at (queue ++ p ∷ []) i).right symbol) ≡ true
    closed_on i symbol lt inside before = elim (before_or_last queue p i lt) [
      | inl below ↦ rw (pair_before queue p i below) (still_met met new p _ _ change (e.closed i symbol below inside before))
      | inr last ↦
          let late : length queue * symbols_of a b + symbol < place = subst (λ n. n * symbols_of a b + symbol < place) last before in
          absurd (omega (arith, late, fits))
    ]

    -- a new pair at the end
    explores_new : Explores a b (queue ++ p ∷ []) new place
    explores_new =
        let some = e.some in
        let same = pair_before queue p 0 some in
        record {
          some = omega (arith, some, length_push queue p);
          left_first = rw same e.left_first;
          right_first = rw same e.right_first;
          linked = linked_on;
          listed = listed_on;
          closed = closed_on;
        }

    -- the pair, which is new or was met before
    explores_with : (after : List Pair) → after ≡ cond (has_at met p.left p.right) queue (queue ++ p ∷ []) → Explores a b after new place
    explores_with after is = elim (has_at met p.left p.right) as (λ w. has_at met p.left p.right ≡ w → after ≡ cond w queue (queue ++ p ∷ []) → Explores a b after new place) [
      | true ↦ λ h same. rw same (explores_old h)
      | false ↦ λ h same. rw same explores_new
    ] refl is

-- a pair that was read is the one of that place
pub read : (queue : List Pair) (i : ℕ) (p : Pair) → i < length queue → p ≡ get_or queue i p → p ≡ pair_at queue i
read queue i p lt is = is ∙ sym (get_or_default queue i first_pair p lt)

pub as_many : (queue after : List Pair) (p : Pair) (w : Bool) → after ≡ cond w queue (queue ++ p ∷ []) → length queue ≤ length after
as_many queue after p true is = let e = ap length is in omega (arith, e)
as_many queue after p false is = let e = ap length is in omega (arith, e, length_push queue p)

pub same_pair : (queue after : List Pair) (p : Pair) (w : Bool) (i : ℕ) → after ≡ cond w queue (queue ++ p ∷ []) → i < length queue → pair_at after i ≡ pair_at queue i
same_pair queue after p true i is lt = ap (λ q. pair_at q i) is
same_pair queue after p false i is lt = ap (λ q. pair_at q i) is ∙ pair_before queue p i lt

-- one symbol more was followed
one_symbol_on : (a b : Table) (queue : List Pair) (met : Matrix) (at symbol : ℕ)
    → Explores a b queue met (at * symbols_of a b + symbol) → symbol < symbols_of a b
    → has_at met (step_of a (pair_at queue at).left symbol) (step_of b (pair_at queue at).right symbol) ≡ true
    → Explores a b queue met (at * symbols_of a b + (symbol + 1))
one_symbol_on a b queue met at symbol e inside here = record {
  some = e.some;
  left_first = e.left_first;
  right_first = e.right_first;
  linked = e.linked;
  listed = e.listed;
  closed = λ i c lt in_c before. elim (cases_lt (i * symbols_of a b + c) (at * symbols_of a b + symbol)) [
    | inl below ↦ e.closed i c lt in_c below
    | inr above ↦
        let is : i * symbols_of a b + c ≡ at * symbols_of a b + symbol = omega (arith, before, above) in
        let place = one_place (symbols_of a b) i at c symbol in_c inside is in
        rw (place.0, place.1) here
  ];
}

-- the pair to which one symbol leads
pub pair_on : (a b : Table) (queue : List Pair) (met : Matrix) (at symbol : ℕ) (from : Pair) (left right : ℕ) (new : Matrix)
    (after : List Pair) → Explores a b queue met (at * symbols_of a b + symbol) → symbol < symbols_of a b → at < length queue
    → pair_at queue at ≡ from → left ≡ step_of a from.left symbol → right ≡ step_of b from.right symbol
    → ChangesRow met new left (λ c. eqb right c || has_at met left c)
    → after ≡ cond (has_at met left right) queue
    (queue ++ record { parent = at; symbol = symbol; left = left; right = right } ∷ [])
    → Explores a b after new (at * symbols_of a b + (symbol + 1))
pair_on a b queue met at symbol from left right new after e inside lt from_is left_is right_is change is =
    let p : Pair = record { parent = at; symbol = symbol; left = left; right = right } in
    let row : at * symbols_of a b + symbols_of a b ≤ length queue * symbols_of a b = row_fits at (symbols_of a b) (length queue) (symbols_of a b) lt (omega arith) in
    let left_on : left ≡ step_of a (pair_at queue at).left symbol = rw from_is left_is in
    let right_on : right ≡ step_of b (pair_at queue at).right symbol = rw from_is right_is in
    let more : Explores a b after new (at * symbols_of a b + symbol) = explores_with a b queue met _ e new p change (omega (arith, row, inside)) lt left_on right_on after is in
    let same : pair_at after at ≡ pair_at queue at = same_pair queue after p (has_at met left right) at is lt in
    one_symbol_on a b after new at symbol more inside (rw (same, ← left_on, ← right_on) (now_met met new p change))

-- ---- going back

pub back_on : (word spelled : List ℕ) (symbol : ℕ) → (word ++ symbol ∷ []) ++ reverse spelled ≡ word ++ reverse (spelled ++ symbol ∷ [])
back_on word spelled symbol = rw (reverse-append spelled (symbol ∷ [])) (append_assoc word (symbol ∷ []) (reverse spelled))

-- ---- the whole search

walk_push : (t : Table) (state : ℕ) (word : List ℕ) (symbol : ℕ) → walk_from t state (word ++ symbol ∷ []) ≡ step_of t (walk_from t state word) symbol
walk_push t state [] symbol = refl
walk_push t state (x ∷ xs) symbol = walk_push t (step_of t state x) xs symbol

module _ (a b : Table) (queue : List Pair) (met : Matrix) (place : ℕ) (e : Explores a b queue met place) where
  -- the word of a pair reaches its states
  follows : (i : ℕ) (word : List ℕ) → i < length queue → Spells queue i word → (walk_from a 0 word ≡ (pair_at queue i).left) × (walk_from b 0 word ≡ (pair_at queue i).right)
  follows i word lt start = (sym e.left_first, sym e.right_first)
  follows i word lt (onward {i = j} {word = before} some spells) =
      let link = e.linked j some lt in
      let parent_before = link.before in
      let rest = follows (pair_at queue j).parent before (omega (arith, parent_before, lt)) spells in (
        walk_push a 0 before (pair_at queue j).symbol ∙ ap (λ s. step_of a s (pair_at queue j).symbol) rest.0 ∙ sym link.left_is,
        walk_push b 0 before (pair_at queue j).symbol ∙ ap (λ s. step_of b s (pair_at queue j).symbol) rest.1 ∙ sym link.right_is,
      )

  module _ (whole : place ≡ length queue * symbols_of a b) (table_a : IsTable a.states a.symbols a.next)
      (table_b : IsTable b.states b.symbols b.next)
      (agree : (i : ℕ) → i < length queue → does_accept a (pair_at queue i).left ≡ does_accept b (pair_at queue i).right) where
    same_from : (word : List ℕ) (i : ℕ) → i < length queue → does_accept a (walk_from a (pair_at queue i).left word) ≡ does_accept b (walk_from b (pair_at queue i).right word)
    same_from [] i lt = agree i lt
    same_from (symbol ∷ word) i lt = elim (cases_lt symbol (symbols_of a b)) [
      | inl inside ↦
          let fits : i * symbols_of a b + symbols_of a b ≤ length queue * symbols_of a b = row_fits i (symbols_of a b) (length queue) (symbols_of a b) lt (omega arith) in
          let is_met = e.closed i symbol lt inside (omega (arith, fits, inside, whole)) in
          let next = e.listed _ _ is_met in
          ap (λ s. does_accept a (walk_from a s word)) (sym next.left_is) ∙ same_from word next.place next.inside ∙ ap (λ s. does_accept b (walk_from b s word)) next.right_is
      | inr past ↦
          let out_a = step_past a (pair_at queue i).left symbol (omega (arith, past)) in
          let out_b = step_past b (pair_at queue i).right symbol (omega (arith, past)) in
          ap (λ s. does_accept a (walk_from a s word)) out_a ∙ stays_out a word ∙ sym (ap (λ s. does_accept b (walk_from b s word)) out_b ∙ stays_out b word)
    ]

    pub all_the_same : AcceptTheSame a b
    all_the_same word =
        let same : does_accept a (walk_from a 0 word) ≡ does_accept b (walk_from b 0 word) =
        ap (λ s. does_accept a (walk_from a s word)) (sym e.left_first) ∙ same_from word 0 e.some
        ∙ ap (λ s. does_accept b (walk_from b s word)) e.right_first in
        let in_a = accepted a word table_a in
        let in_b = accepted b word table_b in
        ((λ h. in_b.0 (sym same ∙ in_a.1 h)), (λ h. in_a.0 (same ∙ in_b.1 h)))

are_same : (p q : Bool) → not (beq p q) ≡ false → p ≡ q
are_same p q h = grind (arith, h)

one_of : {A B : Type 0} (p q : Bool) → (p ≡ true) ↔ A → (q ≡ true) ↔ B → not (beq p q) ≡ true → (A × (B → ⊥)) ⊎ (B × (A → ⊥))
one_of true true f g differ = absurd (true≢false (sym differ))
one_of true false f g differ = inl (f.0 refl, λ h. true≢false (sym (g.1 h)))
one_of false true f g differ = inr (g.0 refl, λ h. true≢false (sym (f.1 h)))
one_of false false f g differ = absurd (true≢false (sym differ))

-- the test of the pair that was read, where it found that both accept or neither does
pub agree_at : (a b : Table) (queue : List Pair) (i : ℕ) (p : Pair) (x y : Bool) → i < length queue → p ≡ get_or queue i p
    → x ≡ does_accept a p.left → y ≡ does_accept b p.right → not (beq x y) ≡ false
    → does_accept a (pair_at queue i).left ≡ does_accept b (pair_at queue i).right
agree_at a b queue i p x y lt is x_is y_is same = rw (← read queue i p lt is) (sym x_is ∙ are_same x y same ∙ y_is)

-- and where it found that one does
pub differ_at : (a b : Table) (queue : List Pair) (met : Matrix) (place : ℕ) → Explores a b queue met place
    → (i : ℕ) (p : Pair) (x y : Bool) (word : List ℕ) → i < length queue → p ≡ get_or queue i p → x ≡ does_accept a p.left
    → y ≡ does_accept b p.right → not (beq x y) ≡ true → Spells queue i word → IsTable a.states a.symbols a.next
    → IsTable b.states b.symbols b.next → IsAcceptedByOne a b word
differ_at a b queue met place e i p x y word lt is x_is y_is differ spells table_a table_b =
    let ends = follows a b queue met place e i word lt spells in
    let pair_is = read queue i p lt is in
    let in_a : x ≡ does_accept a (walk_from a 0 word) = rw (ends.0, ← pair_is) x_is in
    let in_b : y ≡ does_accept b (walk_from b 0 word) = rw (ends.1, ← pair_is) y_is in
    one_of (does_accept a (walk_from a 0 word)) (does_accept b (walk_from b 0 word)) (accepted a word table_a) (accepted b word table_b) (rw (← in_a, ← in_b) differ)

-- ---- places in the queue

pub explored_none : (a b : Table) (queue : List Pair) (met : Matrix) (n : ℕ) → Explores a b queue met 0 → Explores a b queue met (0 * n)
explored_none a b queue met n h = let none : 0 ≡ 0 * n = omega arith in subst (λ place. Explores a b queue met place) none h

-- where each symbol was followed from a pair, the search is at the next one
pub explored_pair : (a b : Table) (queue : List Pair) (met : Matrix) (at symbol n : ℕ) → symbol ≡ n → Explores a b queue met (at * n + symbol) → Explores a b queue met ((at + 1) * n)
explored_pair a b queue met at symbol n is h = let next : at * n + symbol ≡ (at + 1) * n = omega (arith, is) in subst (λ place. Explores a b queue met place) next h
