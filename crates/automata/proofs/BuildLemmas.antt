-- A table on its way to the deterministic automaton, and what it comes to.
use Rattle.std.proofs.Common.{◌≡◌, ℕ, ◌+◌, ◌*◌, ◌/◌, ◌%◌, ◌<◌, ◌≤◌, true, cond, inl, inr, List, [], ◌∷◌, ◌++◌}
use Rattle.std.proofs.Common.{length, zero, suc, get_or, slice_index, refl, sym, ap, subst, ◌∙◌, ◌↔◌, arith}
use Rattle.std.{specs.Cmp.both_ways, proofs.lemmas.Bool.{true≢false, cases_eq, cases_lt, eq-eqb, ne_eqb}}
use Rattle.std.proofs.lemmas.List.{get_or_append_left, get_or_past, get_or_push, length_push}
use Rattle.std.proofs.lemmas.Nat.{div-add-mod', div-mul-add, mod-mul-add, mod_below, row_fits}
use Rattle.bit_set.specs.{Members.{IsSameSet, Updates}, Sets.{IsAscending, has}}
use Rattle.automata.specs.{Building.{Builds, IsEntry, Meets}, Numbering.{IsNew, Numbers, set_of}}
use Rattle.automata.specs.Runs.{Accepts, Automaton, IsEnd, IsImage, IsReach, Run, onward, row_of, successors}
use Rattle.automata.specs.Tables.{AreApart, AreReached, IsAcceptedBy, IsSubsetTable, IsTable, IsWordOver, ReachesMoreThan, Table, end_from, next_state}
use Rattle.automata.proofs.{NumberingLemmas.{before_or_last, set_before, set_last}, StepLemmas.{end_none, end_on}}

-- ---- words

pub over_push : (n : ℕ) (word : List ℕ) (symbol : ℕ) → IsWordOver n word → symbol < n → IsWordOver n (word ++ symbol ∷ [])
over_push n [] symbol over lt = (lt, tt)
over_push n (x ∷ xs) symbol over lt = (over.0, over_push n xs symbol over.1 lt)

leads_inside : (moves : List (List (List ℕ))) (u symbol v : ℕ) → has (successors (row_of moves symbol) u) v ≡ true → symbol < length moves
leads_inside moves u symbol v leads = elim (cases_lt symbol (length moves)) [
  | inl lt ↦ lt
  | inr past ↦ absurd (true≢false (sym leads ∙ ap (λ row. has (successors row u) v) (get_or_past moves symbol [] past)))
]

-- a run spells a word over the symbols
pub run_over : (moves : List (List (List ℕ))) (u v : ℕ) (word : List ℕ) → Run moves u word v → IsWordOver (length moves) word
run_over moves u v [] run = tt
run_over moves u v (symbol ∷ word) (onward {v = m} first rest) = (leads_inside moves u symbol m first, run_over moves m v word rest)

-- a symbol first, and then a word
pub end_first : (moves : List (List (List ℕ))) (s t r word : List ℕ) (symbol : ℕ) → IsImage (row_of moves symbol) s t → IsEnd moves t word r → IsEnd moves s (symbol ∷ word) r
end_first moves s t r word symbol image end v = (
  (λ h. let p = (end v).0 h in let q = (image p.0).0 p.1 in (q.0, q.1, onward q.2 p.2)),
  (λ p. starts_on p.0 p.1 p.2),
)
  where
    starts_on : (u : ℕ) → has s u ≡ true → Run moves u (symbol ∷ word) v → has r v ≡ true
    starts_on u h (onward {v = m} first rest) = (end v).1 (m, (image m).1 (u, h, first), rest)

-- ---- a set more, and an entry more

pub one_place : (k i j a b : ℕ) → a < k → b < k → i * k + a ≡ j * k + b → (i ≡ j) × (a ≡ b)
one_place k i j a b lt_a lt_b is = (
  sym (div-mul-add i k a lt_a) ∙ ap (λ n. n / k) is ∙ div-mul-add j k b lt_b,
  sym (mod-mul-add i k a lt_a) ∙ ap (λ n. n % k) is ∙ mod-mul-add j k b lt_b,
)

module _ (nfa : Automaton) (sets : List (List ℕ)) (next : List ℕ) (b : Builds nfa sets next) where
  -- what a symbol makes of a set that a word reaches
  pub reached_on : (i symbol : ℕ) (set : List ℕ) → i < length sets → symbol < length nfa.moves
      → IsImage (row_of nfa.moves symbol) (set_of sets i) set
      → (word : List ℕ) × IsWordOver (length nfa.moves) word × IsReach nfa word set
  reached_on i symbol set lt inside image =
      let p = b.reached i lt in
      (p.0 ++ symbol ∷ [], over_push (length nfa.moves) p.0 symbol p.1 inside, end_on nfa.moves nfa.starts (set_of sets i) set p.0 symbol p.2 image)

  module _ (set : List ℕ) (up : IsAscending set)
      (reach : (word : List ℕ) × IsWordOver (length nfa.moves) word × IsReach nfa word set) (new : IsNew sets set)
      (one_list : (s t : List ℕ) → IsAscending s → IsAscending t → ((n : ℕ) → has s n ≡ has t n) → s ≡ t) where
    reached_with : AreReached nfa (sets ++ set ∷ [])
    reached_with i lt = elim (before_or_last sets set i lt) [
      | inl below ↦ rw (set_before sets set i below) (b.reached i below)
      | inr last ↦ rw (set_last sets set i last) reach
    ]

    ascend_with : (i : ℕ) → i < length (sets ++ set ∷ []) → IsAscending (set_of (sets ++ set ∷ []) i)
    ascend_with i lt = elim (before_or_last sets set i lt) [
      | inl below ↦ rw (set_before sets set i below) (b.ascend i below)
      | inr last ↦ rw (set_last sets set i last) up
    ]

    not_the_last : (i : ℕ) → i < length sets → IsSameSet (set_of sets i) set → ⊥
    not_the_last i lt same = new i lt (one_list (set_of sets i) set (b.ascend i lt) up same)

    apart_with : AreApart (sets ++ set ∷ [])
    apart_with i j lt_i lt_j same = elim (before_or_last sets set i lt_i) [
      | inl below_i ↦ elim (before_or_last sets set j lt_j) [
        | inl below_j ↦ b.apart i j below_i below_j (λ n. ap (λ s. has s n) (sym (set_before sets set i below_i)) ∙ same n ∙ ap (λ s. has s n) (set_before sets set j below_j))
        | inr last_j ↦ absurd (not_the_last i below_i (λ n. ap (λ s. has s n) (sym (set_before sets set i below_i)) ∙ same n ∙ ap (λ s. has s n) (set_last sets set j last_j)))
      ]
      | inr last_i ↦ elim (before_or_last sets set j lt_j) [
        | inl below_j ↦ absurd (not_the_last j below_j (λ n. ap (λ s. has s n) (sym (set_before sets set j below_j)) ∙ sym (same n) ∙ ap (λ s. has s n) (set_last sets set i last_i)))
        | inr last_j ↦ last_i ∙ sym last_j
      ]
    ]

    pub more_than : (most : ℕ) → most ≤ length sets → ReachesMoreThan most nfa
    more_than most full = (sets ++ set ∷ [], reached_with, apart_with, omega (arith, full, length_push sets set))

    pub builds_with : Builds nfa (sets ++ set ∷ []) next
    builds_with = record {
      some = omega (arith, length_push sets set);
      start = let some = b.some in set_before sets set 0 some ∙ b.start;
      ascend = ascend_with;
      reached = reached_with;
      apart = apart_with;
      entries = λ i symbol inside lt.
          let e = b.entries i symbol inside lt in
          record {
            from = omega (arith, e.from, length_push sets set);
            to = omega (arith, e.to, length_push sets set);
            image = rw (set_before sets set i e.from, set_before sets set (next_state (length nfa.moves) next i symbol) e.to) e.image;
          };
    }

  pub builds_numbered : (set : List ℕ) (number : ℕ) (after : List (List ℕ)) → IsAscending set
      → ((word : List ℕ) × IsWordOver (length nfa.moves) word × IsReach nfa word set)
      → ((s t : List ℕ) → IsAscending s → IsAscending t → ((n : ℕ) → has s n ≡ has t n) → s ≡ t)
      → Numbers sets set number after → Builds nfa after next
  builds_numbered set number after up reach one_list n = elim n.grows [
    | inl same ↦ rw same b
    | inr more ↦ rw more.0 (builds_with set up reach more.1 one_list)
  ]

  -- the entry at the end
  pub builds_entry : (i symbol to : ℕ) → length next ≡ i * length nfa.moves + symbol → symbol < length nfa.moves
      → i < length sets → to < length sets → IsImage (row_of nfa.moves symbol) (set_of sets i) (set_of sets to)
      → Builds nfa sets (next ++ to ∷ [])
  builds_entry i symbol to is inside from lt image = record {
    some = b.some;
    start = b.start;
    ascend = b.ascend;
    reached = b.reached;
    apart = b.apart;
    entries = λ j a in_a lt_j. elim (cases_lt (j * length nfa.moves + a) (length next)) [
      | inl below ↦
          let e = b.entries j a in_a below in
          let same : next_state (length nfa.moves) (next ++ to ∷ []) j a ≡ next_state (length nfa.moves) next j a = get_or_append_left next (to ∷ []) 0 (j * length nfa.moves + a) below in
          record { from = e.from; to = rw same e.to; image = rw same e.image }
      | inr above ↦
          let at : j * length nfa.moves + a ≡ length next = omega (arith, above, lt_j, length_push next to) in
          let place = one_place (length nfa.moves) j i a symbol in_a inside (at ∙ is) in
          let same : next_state (length nfa.moves) (next ++ to ∷ []) j a ≡ to = get_or_push next to 0 (j * length nfa.moves + a) (sym at) in
          record { from = rw place.0 from; to = rw same lt; image = rw (same, place.0, place.1) image }
    ];
  }

-- the numbers of before are still those of the same sets
pub number_kept : (old : List (List ℕ)) (set : List ℕ) (number i : ℕ) (new : List (List ℕ)) → Numbers old set number new → i < length old → set_of new i ≡ set_of old i
number_kept old set number i new n lt = elim n.grows [
  | inl same ↦ ap (λ sets. set_of sets i) same
  | inr more ↦ ap (λ sets. set_of sets i) more.0 ∙ set_before old set i lt
]

pub as_many : (old : List (List ℕ)) (set : List ℕ) (number : ℕ) (new : List (List ℕ)) → Numbers old set number new → length old ≤ length new
as_many old set number new n = elim n.grows [
  | inl same ↦ let e = ap length same in omega (arith, e)
  | inr more ↦ let e = ap length more.0 in omega (arith, e, length_push old set)
]

-- the set to which a symbol leads, with its number at the end of the table
pub row_on : (nfa : Automaton) (sets : List (List ℕ)) (next : List ℕ) (i symbol : ℕ) (set : List ℕ) (number : ℕ)
    (new : List (List ℕ)) → Builds nfa sets next → IsAscending set
    → ((s t : List ℕ) → IsAscending s → IsAscending t → ((n : ℕ) → has s n ≡ has t n) → s ≡ t)
    → length next ≡ i * length nfa.moves + symbol → symbol < length nfa.moves → i < length sets
    → IsImage (row_of nfa.moves symbol) (set_of sets i) set → Numbers sets set number new → Builds nfa new (next ++ number ∷ [])
row_on nfa sets next i symbol set number new b up one_list is inside from image n =
    let more = as_many sets set number new n in
    let same = number_kept sets set number i new n from in
    builds_entry nfa new next (builds_numbered nfa sets next b set number new up
    (reached_on nfa sets next b i symbol set from inside image) one_list n) i symbol number is
    inside (omega (arith, more, from)) n.inside (rw (same, n.named) image)

-- ---- the starts

module _ (nfa : Automaton) (set : List ℕ) (up : IsAscending set) (is : set ≡ nfa.starts) where
  the_first : (i : ℕ) → i < 1 → set_of (set ∷ []) i ≡ set
  the_first i lt = let zero_is : i ≡ 0 = omega (arith, lt) in ap (λ n. set_of (set ∷ []) n) zero_is

  reach_first : AreReached nfa (set ∷ [])
  reach_first i lt = rw (the_first i lt, is) ([], tt, end_none nfa.moves nfa.starts)

  apart_first : AreApart (set ∷ [])
  apart_first i j lt_i lt_j same = omega (arith, lt_i, lt_j)

  pub more_than_none : (most : ℕ) → most ≤ 0 → ReachesMoreThan most nfa
  more_than_none most full = (set ∷ [], reach_first, apart_first, omega (arith, full))

  pub builds_first : (number : ℕ) (after : List (List ℕ)) → Numbers [] set number after → Builds nfa after []
  builds_first number after n = elim n.grows [
    | inl same ↦ let inside = n.inside in let e = ap length same in absurd (omega (arith, inside, e))
    | inr more ↦ rw more.0 (record {
      some = omega arith;
      start = is;
      ascend = λ i lt. rw (the_first i lt) up;
      reached = reach_first;
      apart = apart_first;
      entries = λ i symbol inside lt. absurd (omega (arith, lt));
    })
  ]

-- ---- the accepting states

pub accept_on : (P : ℕ → Type 0) (old new : List ℕ) (i : ℕ) → Updates old new i true → P i → ((j : ℕ) → (has old j ≡ true) ↔ ((j < i) × P j)) → (j : ℕ) → (has new j ≡ true) ↔ ((j < i + 1) × P j)
accept_on P old new i updates it before j = elim (cases_eq i j) [
  | inl is ↦
      let here : has new j ≡ true = updates j ∙ ap (λ b. cond b true (has old j)) (eq-eqb i j is) in
      ((λ h. (omega (arith, is), subst P is it)), (λ p. here))
  | inr other ↦
      let same : has new j ≡ has old j = updates j ∙ ap (λ b. cond b true (has old j)) (ne_eqb i j other) in (
        (λ h. let p = (before j).0 (sym same ∙ h) in (omega (arith, p.0), p.1)),
        (λ p. same ∙ (before j).1 (omega (arith, p.0, other), p.1)),
      )
]

pub accept_past : (P : ℕ → Type 0) (old : List ℕ) (i : ℕ) → (P i → ⊥) → ((j : ℕ) → (has old j ≡ true) ↔ ((j < i) × P j)) → (j : ℕ) → (has old j ≡ true) ↔ ((j < i + 1) × P j)
accept_past P old i not_it before j = (
  (λ h. let p = (before j).0 h in (omega (arith, p.0), p.1)),
  (λ p. (before j).1 (elim (cases_eq i j) [ inl is ↦ absurd (not_it (subst P (sym is) p.1)) | inr other ↦ omega (arith, p.0, other) ], p.1)),
)

-- ---- what one word reaches

pub same_reach : (nfa : Automaton) (word s t : List ℕ) → IsReach nfa word s → IsReach nfa word t → IsSameSet s t
same_reach nfa word s t reach_s reach_t v = both_ways (has s v) (has t v) (λ h. (reach_t v).1 ((reach_s v).0 h)) (λ h. (reach_s v).1 ((reach_t v).0 h))

-- ---- the table of all sets

module _ (nfa : Automaton) (sets : List (List ℕ)) (next : List ℕ) (b : Builds nfa sets next) (whole : length next ≡ length sets * length nfa.moves) where
  entry : (i symbol : ℕ) → i < length sets → symbol < length nfa.moves → IsEntry nfa sets next i symbol
  entry i symbol lt inside =
      let fits : i * length nfa.moves + length nfa.moves ≤ length sets * length nfa.moves = row_fits i (length nfa.moves) (length sets) (length nfa.moves) lt (omega arith) in
      b.entries i symbol inside (omega (arith, fits, inside, whole))

  ends : (i : ℕ) (word : List ℕ) → i < length sets → IsWordOver (length nfa.moves) word
      → (end_from (length nfa.moves) next i word < length sets) × IsEnd nfa.moves (set_of sets i) word
      (set_of sets (end_from (length nfa.moves) next i word))
  ends i [] lt over = (lt, end_none nfa.moves (set_of sets i))
  ends i (symbol ∷ word) lt over =
      let e = entry i symbol lt over.0 in
      let rest = ends (next_state (length nfa.moves) next i symbol) word e.to over.1 in
      (rest.0, end_first nfa.moves (set_of sets i) (set_of sets (next_state (length nfa.moves) next i symbol)) _ word symbol e.image rest.1)

  -- the set of the state to which a word leads is what the word reaches
  leads : (word : List ℕ) → IsWordOver (length nfa.moves) word → (end_from (length nfa.moves) next 0 word < length sets) × IsReach nfa word (set_of sets (end_from (length nfa.moves) next 0 word))
  leads word over = let p = ends 0 word b.some over in (p.0, rw b.start at p.1)

  is_led_to : (i : ℕ) → i < length sets → (word : List ℕ) × IsWordOver (length nfa.moves) word × (end_from (length nfa.moves) next 0 word ≡ i)
  is_led_to i lt =
      let r = b.reached i lt in
      let l = leads r.0 r.1 in
      (r.0, r.1, b.apart (end_from (length nfa.moves) next 0 r.0) i l.0 lt (same_reach nfa r.0 _ _ l.1 r.2))

  module _ (accepting : List ℕ) where
    table : Table
    table = record { states = length sets; symbols = length nfa.moves; next = next; accepting = accepting }

    pub is_subset_table : IsSubsetTable nfa (record { states = length sets; symbols = length nfa.moves; next = next; accepting = accepting }) sets
    is_subset_table = record { symbols = refl; states = refl; leads = leads; reached = is_led_to; apart = b.apart }

    pub same_words : ((i : ℕ) → (has accepting i ≡ true) ↔ ((i < length sets) × Meets (set_of sets i) nfa.accepting))
        → (word : List ℕ)
        → IsAcceptedBy (record { states = length sets; symbols = length nfa.moves; next = next; accepting = accepting }) word
        ↔ Accepts nfa word
    same_words accept word = (
      (λ p. let m = ((accept (end_from (length nfa.moves) next 0 word)).0 p.1).1 in (m.0, ((leads word p.0).1 m.0).0 m.1, m.2)),
      (λ p.
          let over = run_over nfa.moves p.1.0 p.0 word p.1.2 in
          let l = leads word over in
          (over, (accept (end_from (length nfa.moves) next 0 word)).1 (l.0, (p.0, (l.1 p.0).1 p.1, p.2)))),
    )

  pub is_table : IsTable (length sets) (length nfa.moves) next
  is_table = record { start = b.some; whole = whole; inside = λ p lt. at_place p lt }
    where
      at_place : (p : ℕ) → p < length next → slice_index next p < length sets
      at_place p lt = elim (cases_lt 0 (length nfa.moves)) [
        | inl some ↦
            let column : p % length nfa.moves < length nfa.moves = mod_below p (length nfa.moves) some in
            let at : p / length nfa.moves * length nfa.moves + p % length nfa.moves ≡ p = div-add-mod' p (length nfa.moves) in
            let e = b.entries (p / length nfa.moves) (p % length nfa.moves) column (omega (arith, at, lt)) in
            rw at at e.to
        | inr none ↦
            let no_symbol : length nfa.moves ≡ 0 = omega (arith, none) in
            let no_entry : length next ≡ length sets * 0 = rw no_symbol at whole in
            absurd (omega (arith, no_entry, lt))
      ]

-- ---- reading a word

pub over_at : (n : ℕ) (word : List ℕ) (i : ℕ) → IsWordOver n word → i < length word → get_or word i 0 < n
over_at n [] i over lt = absurd (omega (arith, lt))
over_at n (x ∷ xs) zero over lt = over.0
over_at n (x ∷ xs) (suc i) over lt = over_at n xs i over.1 (omega (arith, lt))

pub end_push : (k : ℕ) (next : List ℕ) (state : ℕ) (word : List ℕ) (symbol : ℕ) → end_from k next state (word ++ symbol ∷ []) ≡ next_state k next (end_from k next state word) symbol
end_push k next state [] symbol = refl
end_push k next state (x ∷ xs) symbol = end_push k next (next_state k next state x) xs symbol

pub place_inside : (states symbols : ℕ) (next : List ℕ) (state symbol : ℕ) → IsTable states symbols next → state < states → symbol < symbols → state * symbols + symbol < length next
place_inside states symbols next state symbol t in_states in_symbols =
    let fits : state * symbols + symbols ≤ states * symbols = row_fits state symbols states symbols in_states (omega arith) in
    let whole = t.whole in omega (arith, fits, in_symbols, whole)
