-- A set's number, by a list and a map that say the same.
use Rattle.std.proofs.Common.{◌≡◌, ℕ, ◌<◌, true, false, cond, ◌⊎◌, inl, inr, List, [], ◌∷◌, ◌++◌, Option, Some, None, IsTrue, length, refl, sym, ap, ◌∙◌, ◌↔◌, arith}
use Rattle.std.{specs.{Ordering.is_eq, declared.cmp.Ordering.Ordering}, proofs.lemmas.Bool.{true≢false, cases_lt}}
use Rattle.std.proofs.lemmas.List.{get_or_append_left, get_or_push, length_push, map_push}
use Rattle.std.specs.declared.cmp.Ordering.TheVariants.{Less, Equal, Greater}
use Rattle.bit_set.specs.{Bits.Bits, Order.{order_of_sets, same_sets}, Sets.elements}
use Rattle.automata.specs.{Numbering.{Finds, IsNew, Numbers, set_of}, Runs.row_of_sets}

pub is_equal : (o : Ordering) → is_eq o ≡ true → o ≡ Equal
is_equal Less h = absurd (true≢false (sym h))
is_equal Equal h = refl
is_equal Greater h = absurd (true≢false (sym h))

some_is : {X : Type 0} (x y : X) → Some x ≡ Some y → x ≡ y
some_is x y h = cc

none_is_not_some : {X : Type 0} (o : Option X) (x : X) → o ≡ None → o ≡ Some x → ⊥
none_is_not_some o x none some = cc

-- ---- one set more

pub set_before : (sets : List (List ℕ)) (set : List ℕ) (i : ℕ) → i < length sets → set_of (sets ++ set ∷ []) i ≡ set_of sets i
set_before sets set i lt = get_or_append_left sets (set ∷ []) [] i lt

pub set_last : (sets : List (List ℕ)) (set : List ℕ) (i : ℕ) → i ≡ length sets → set_of (sets ++ set ∷ []) i ≡ set
set_last sets set i is = get_or_push sets set [] i (sym is)

-- a number below one more is below or the last
pub before_or_last : {X : Type 0} (xs : List X) (x : X) (i : ℕ) → i < length (xs ++ x ∷ []) → (i < length xs) ⊎ (i ≡ length xs)
before_or_last xs x i lt = elim (cases_lt i (length xs)) [ inl below ↦ inl below | inr above ↦ inr (omega (arith, lt, above, length_push xs x)) ]

-- a copy of the set at the end of the list
pub pushed : (sets mid after : List Bits) (copy : Bits) (set : List ℕ) → after ≡ mid ++ copy ∷ [] → mid ≡ sets → elements copy.values ≡ set → row_of_sets after ≡ row_of_sets sets ++ set ∷ []
pushed sets mid after copy set is same copied =
    ap row_of_sets (is ∙ ap (λ l. l ++ copy ∷ []) same) ∙ map_push (λ (bits : Bits). elements bits.values) sets copy
    ∙ ap (λ last. row_of_sets sets ++ last ∷ []) copied

module _ (find : Bits → Option ℕ) (sets : List (List ℕ)) (f : Finds find sets) where
  pub numbers_found : (set : Bits) (number : ℕ) → find set ≡ Some number → Numbers sets (elements set.values) number sets
  numbers_found set number is = let at = f.listed set number is in record { inside = at.0; named = at.1; grows = inl refl }

  pub listed : (set : Bits) (number : ℕ) → find set ≡ Some number → (number < length sets) × (set_of sets number ≡ elements set.values)
  listed set number is = f.listed set number is

  pub is_new : (set : Bits) → find set ≡ None → IsNew sets (elements set.values)
  is_new set none number lt same = none_is_not_some (find set) number none (f.found set number lt same)

  pub not_found : (set : Bits) → IsNew sets (elements set.values) → find set ≡ None
  not_found set new = elim (find set) as (λ o. find set ≡ o → o ≡ None) [
    | None ↦ λ e. refl
    | Some number ↦ λ e. let at = f.listed set number e in absurd (new number at.0 at.1)
  ] refl

  pub numbers_new : (set : Bits) (number : ℕ) → number ≡ length sets → find set ≡ None → Numbers sets (elements set.values) number (sets ++ elements set.values ∷ [])
  numbers_new set number is none = record {
    inside = omega (arith, is, length_push sets (elements set.values));
    named = set_last sets (elements set.values) number is;
    grows = inr (refl, is_new set none);
  }

  module _ (equal : (s t : List ℕ) → (order_of_sets s t ≡ Equal) ↔ IsTrue (same_sets s t)) (same : (s t : List ℕ) → IsTrue (same_sets s t) ↔ (s ≡ t)) where
    same_list : (s t : List ℕ) → is_eq (order_of_sets s t) ≡ true → s ≡ t
    same_list s t h = (same s t).0 ((equal s t).0 (is_equal (order_of_sets s t) h))

    same_place : (s t : List ℕ) → s ≡ t → is_eq (order_of_sets s t) ≡ true
    same_place s t h = ap is_eq ((equal s t).1 ((same s t).1 h))

    module _ (set : Bits) (number : ℕ) (is : number ≡ length sets) (none : find set ≡ None) (after : Bits → Option ℕ)
        (updates : (q : Bits) → after q ≡ cond (is_eq (order_of_sets (elements set.values) (elements q.values))) (Some number) (find q)) where
      x : List ℕ
      x = elements set.values

      at_set : (q : Bits) → x ≡ elements q.values → after q ≡ Some number
      unfolding x
      at_set q e = updates q ∙ ap (λ b. cond b (Some number) (find q)) (same_place (elements set.values) (elements q.values) e)

      elsewhere : (q : Bits) → is_eq (order_of_sets x (elements q.values)) ≡ false → after q ≡ find q
      unfolding x
      elsewhere q e = updates q ∙ ap (λ b. cond b (Some number) (find q)) e

      pub finds_on : Finds after (sets ++ elements set.values ∷ [])
      unfolding x
      finds_on = record {
        listed = λ q i at. elim (is_eq (order_of_sets (elements set.values) (elements q.values))) as (λ b.
            is_eq (order_of_sets (elements set.values) (elements q.values)) ≡ b → (i < length (sets ++ elements set.values ∷ []))
            × (set_of (sets ++ elements set.values ∷ []) i ≡ elements q.values)) [
              | true ↦ λ e.
                  let here : elements set.values ≡ elements q.values = same_list _ _ e in
                  let last : number ≡ i = some_is number i (sym (at_set q here) ∙ at) in
                  (omega (arith, is, last, length_push sets (elements set.values)), set_last sets (elements set.values) i (sym last ∙ is) ∙ here)
              | false ↦ λ e.
                  let before = f.listed q i (sym (elsewhere q e) ∙ at) in
                  (omega (arith, before.0, length_push sets (elements set.values)), set_before sets (elements set.values) i before.0 ∙ before.1)
            ] refl;
        found = λ q i lt at. elim (before_or_last sets (elements set.values) i lt) [
          | inl below ↦
              let old : set_of sets i ≡ elements q.values = sym (set_before sets (elements set.values) i below) ∙ at in
              elim (is_eq (order_of_sets (elements set.values) (elements q.values))) as (λ b. is_eq (order_of_sets (elements set.values) (elements q.values)) ≡ b → after q ≡ Some i) [
                | true ↦ λ e. absurd (is_new set none i below (old ∙ sym (same_list _ _ e)))
                | false ↦ λ e. elsewhere q e ∙ f.found q i below old
              ] refl
          | inr last ↦ at_set q (sym (set_last sets (elements set.values) i last) ∙ at) ∙ ap (λ n. Some n) (is ∙ sym last)
        ];
      }
