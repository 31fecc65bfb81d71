-- What single commands rest on: items up to the greatest number, walks, and an array of sets.
use Rattle.std.proofs.Common.{◌≡◌, ◌==◌, if◌then◌else◌, cond, not, Bool, ℕ, ◌+◌, ◌<◌, ◌≤◌, true, false, eqb, List, [], ◌∷◌, ◌++◌, length, get_or, take, drop, map, set, Some, refl, sym, subst, ap, ◌∙◌, arith}
use Rattle.std.proofs.{Common.{Result, OnErr, Iter}, lemmas.Bool.ne_eqb, lemmas.Result.on_err_weaker}
use Rattle.std.proofs.lemmas.List.{append_assoc, take_more, take-append-drop, map-id, set-get_or, map-set, get_or-map}
use Rattle.std.proofs.{lemmas.Iterator.{YieldsList, YieldsList-from_slice}, lemmas.List.Elements.All-take}
use Rattle.std.proofs.lemmas.Iterator.Consumers.{YieldsList-from_copied, YieldsList-so_far, YieldsList-turn}
use Rattle.std.specs.{Iterator.{HoldsAlong, YieldsThen}, List.{All, list_any}, declared.iter.Copied.Copied}
use Rattle.std.proofs.iter.Yields.{copies, fronts}
use Rattle.bit_set.specs.{Bits.Bits, Bounds.greatest, Sets.{bound_of, elements, elements_from, has, put}}
use Rattle.bit_set_run.specs.{Elements.elements_of, Run.{elements_before_greatest, step, reply_with, change_to}}
use Rattle.bit_set_commands.specs.declared.commands.Command.TheVariants.{Insert}
use Rattle.bit_set_commands.specs.declared.commands.Reply.TheVariants.{Truth, Element}

-- a list of truth values is longer than each of its elements
bound_from : (place : ℕ) (bs : List Bool) → bound_of (elements_from place bs) ≤ place + length bs
bound_from place [] = omega arith
bound_from place (true ∷ bs) = let rest = bound_from (place + 1) bs in omega (arith, rest)
bound_from place (false ∷ bs) = let rest = bound_from (place + 1) bs in omega (arith, rest)

pub bound_of_elements : (bs : List Bool) → bound_of (elements bs) ≤ length bs
bound_of_elements bs = let whole = bound_from 0 bs in omega (arith, whole)

-- where each item is below the greatest number, none is that
pub none_greatest : (items : List ℕ) → bound_of items ≤ greatest → list_any (λ n. eqb n greatest) items ≡ false
none_greatest [] fit = refl
none_greatest (n ∷ ns) fit =
    let other : eqb n greatest ≡ false = ne_eqb n greatest (λ e. omega (arith, e, fit)) in
    rw other (none_greatest ns (omega (arith, fit)))

-- an item below it is before it
pub before_taken : (item : ℕ) (rest : List ℕ) → item < greatest → elements_before_greatest (item ∷ rest) ≡ item ∷ elements_before_greatest rest
before_taken item rest low =
    let other : eqb item greatest ≡ false = ne_eqb item greatest (λ e. omega (arith, e, low)) in rw other refl

-- where it is behind them, it is found
pub some_greatest : (front rest : List ℕ) → bound_of front ≤ greatest → list_any (λ n. eqb n greatest) (front ++ greatest ∷ rest) ≡ true
some_greatest [] rest fit = refl
some_greatest (n ∷ ns) rest fit =
    let other : eqb n greatest ≡ false = ne_eqb n greatest (λ e. omega (arith, e, fit)) in
    rw other (some_greatest ns rest (omega (arith, fit)))

-- they are among those before it
pub front_before : (front rest : List ℕ) → bound_of front ≤ greatest → elements_before_greatest (front ++ rest) ≡ front ++ elements_before_greatest rest
front_before [] rest fit = refl
front_before (n ∷ ns) rest fit =
    let other : eqb n greatest ≡ false = ne_eqb n greatest (λ e. omega (arith, e, fit)) in
    rw other (ap (λ xs. n ∷ xs) (front_before ns rest (omega (arith, fit))))

-- a list is its first items, the next one and the rest
stands_before : (all items : List ℕ) (item : ℕ) → items ≡ take (length items) all → length items < length all → item ≡ get_or all (length items) item → all ≡ items ++ item ∷ drop (length items + 1) all
stands_before all items item front within is =
    sym (take-append-drop (length items + 1) all)
    ∙ ap (λ xs. xs ++ drop (length items + 1) all) (take_more all (length items) item within ∙ ap (λ xs. xs ++ get_or all (length items) item ∷ []) (sym front) ∙ ap (λ x. items ++ x ∷ []) (sym is))
    ∙ append_assoc items (item ∷ []) (drop (length items + 1) all)

-- the set of a name is the one at its place
pub set_at : (sets : List Bits) (place name : ℕ) (d : Bits) → length sets ≡ 16 → place < 16 → place ≡ name → get_or (map elements_of sets) name [] ≡ elements_of (get_or sets place d)
set_at sets place name d all within at = ap (λ p. get_or (map elements_of sets) p []) (sym at) ∙ get_or-map elements_of sets place d [] (omega arith)

-- one set of the array is changed by f
pub change_is : (sets : List Bits) (place name : ℕ) (d set_now : Bits) (f : List ℕ → List ℕ) → length sets ≡ 16 → place < 16 → place ≡ name → elements_of set_now ≡ f (elements_of (get_or sets place d)) → map elements_of (set sets place set_now) ≡ set (map elements_of sets) name (f (get_or (map elements_of sets) name []))
change_is sets place name d set_now f all within at changed =
    map-set elements_of sets place set_now ∙ ap (λ t. set (map elements_of sets) place t) (changed ∙ ap f (sym (set_at sets place place d all within refl))) ∙ ap (λ p. set (map elements_of sets) p (f (get_or (map elements_of sets) p []))) at

-- one set of the array is as it was
pub no_change_is : (sets : List Bits) (place : ℕ) (d set_now : Bits) → length sets ≡ 16 → place < 16 → elements_of set_now ≡ elements_of (get_or sets place d) → map elements_of (set sets place set_now) ≡ map elements_of sets
no_change_is sets place d set_now all within same =
    change_is sets place place d set_now (λ s. s) all within refl same ∙ set-get_or (map elements_of sets) place []

-- the same at an error, which comes only where P holds of its elements
pub refused_at : {T E Same : Type 0} (r : Result T E) (sets : List Bits) (place name : ℕ) (d set_now : Bits) (P : List ℕ → Type 0) → length sets ≡ 16 → place < 16 → place ≡ name → (Same → elements_of set_now ≡ elements_of (get_or sets place d)) → OnErr r (P (elements_of (get_or sets place d)) × Same) → OnErr r (P (get_or (map elements_of sets) name []) × (map elements_of (set sets place set_now) ≡ map elements_of sets))
refused_at r sets place name d set_now P all within at same =
    on_err_weaker r (λ refused. (subst P (sym (set_at sets place name d all within at)) refused.0, no_change_is sets place d set_now all within (same refused.1)))

-- what an insert leaves, the greatest number included
pub sets-insert : (sets : List (List ℕ)) (name n : ℕ) → set sets name (if n == greatest then get_or sets name [] else put (get_or sets name []) n) ≡ (step sets (Insert name n)).sets
sets-insert sets name n =
    elim (eqb n greatest) as (λ b. set sets name (cond b (get_or sets name []) (put (get_or sets name []) n)) ≡ (cond b (reply_with sets Element) (change_to sets name (put (get_or sets name []) n) (Truth (not (has (get_or sets name []) n))))).sets) [
      | true ↦ set-get_or sets name []
      | false ↦ refl
    ]

-- the items that a copied slice gave before one more
pub copied_before : (s u : Copied (Iter ℕ)) (all items : List ℕ) (item : ℕ) → s.iter.rest.now ≡ all → YieldsThen (copies fronts) s items (Some item) u → all ≡ items ++ item ∷ drop (length items + 1) all
copied_before s u all items item shown run =
    let source : YieldsList fronts (λ y. y.now) s.iter all = YieldsList-from_slice all shown in
    let yields : YieldsList (copies fronts) (λ x. x) s all = YieldsList-from_copied {s = s} source in
    let so_far = YieldsList-so_far yields items run.0 run.1 in
    let turn = YieldsList-turn yields items run.0 run.1 (Some item) u item refl run.2 in
    stands_before all items item (sym (map-id items) ∙ so_far) turn.0 turn.1

-- what holds of each item of a slice holds of those that copies of it gave
pub copied_along : (s : Copied (Iter ℕ)) (all : List ℕ) (P : ℕ → Type 0) → s.iter.rest.now ≡ all → All P all → HoldsAlong (copies fronts) s (All P)
copied_along s all P shown each = λ items t run.
    let yields : YieldsList (copies fronts) (λ x. x) s all = YieldsList-from_copied {s = s} (YieldsList-from_slice all shown) in
    let so_far = YieldsList-so_far yields items t run in
    subst (All P) (sym (sym (map-id items) ∙ so_far)) (All-take P (length items) all each)
