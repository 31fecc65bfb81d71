-- What one call, and then many, make of a set.
use Rattle.std.proofs.{Common.{◌≡◌, ◌≢◌, ℕ, ◌<◌, not, Bool, true, false, List, [], ◌∷◌, map, All, Err, Ok, OnErr, OnOk, Result, refl, ap, arith}, lemmas.{Bool.Decides.nat_tests, List.Elements.{All-head, All-tail}}}
use Rattle.bit_blocks.specs.Bits.{Bits}
use Rattle.std.proofs.Common.{ℕ, ◌+◌, ◌-◌, ◌≤◌, ◌++◌, length, take, drop, slice_get, get_or, length-append, Option, Some, None, sym, ◌∙◌}
use Rattle.std.proofs.{Math.Seq.take-append_seam, lemmas.{List.get_or-append_right, Option.slice_get-get_or}}
use Rattle.std.specs.Iterator.{YieldsFirst}
use Rattle.bit_words.specs.Bounds.{greatest}
use Rattle.set_algebra.specs.{Moved.raised, Sets.{bound_of, elements, has, put, union, without}, Ranges.span}
use Rattle.bit_set.specs.Changes.{Change, Change.{Insert, InsertRange, PopFirst, PopLast, ShiftUp, ShrinkToFit, Toggle}, Changes, Event, Happens, Outcome, Outcome.{Done, Gave, NoMemory, Returned}, elements_after, outcome_of_result, outcome_of, outcomes}
use Rattle.bit_set.specs.Changes.{set_after}

-- ---- one call

-- an element that went in
pub changes_inserted : (value : ℕ) (new : Bool) (old next : List Bool) → value < greatest → new ≡ not (has (elements old) value)
    → elements next ≡ put (elements old) value → Changes (Insert value) old (Returned new) next
unfolding Changes
changes_inserted value new old next fits says is = grind (arith, nat_tests)

-- an element that was in and went out
pub changes_toggled : (value : ℕ) (old next : List Bool) → value < greatest → has (elements old) value ≡ true
    → elements next ≡ without (elements old) value → Changes (Toggle value) old (Returned false) next
unfolding Changes
changes_toggled value old next fits was is = grind (arith, nat_tests)

-- the elements stay, also where no memory is found
pub changes_shrunk : {T E : Type 0} (r : Result T E) (old next : List Bool) → elements next ≡ elements old → Changes ShrinkToFit old (outcome_of_result r) next
unfolding Changes
changes_shrunk r old next same = grind arith

-- a range that went in where memory was found
pub changes_filled : {T E : Type 0} (a b : ℕ) (r : Result T E) (old next : Bits) → OnOk r (elements next.values ≡ union (elements old.values) (span a b))
    → OnErr r (next ≡ old) → Changes (InsertRange a b) old.values (outcome_of_result r) next.values
unfolding Changes
changes_filled a b (Ok x) old next done failed = (done, refl)
changes_filled a b (Err e) old next done failed = ap (λ bits. elements bits.values) failed

found : (call : Change) (old new : List Bool) (outcome : Outcome) → outcome ≢ NoMemory → Changes call old outcome new
    → (elements new ≡ elements_after call (elements old)) × (outcome ≡ outcome_of call (elements old))
unfolding Changes
found call old new outcome some is = grind arith

-- ---- one after another

pub happens_found : (old new : List Bool) (events : List Event) → All (λ e. e.outcome ≢ NoMemory) events → Happens old events new
    → (elements new ≡ set_after (elements old) (map (λ e. e.call) events)) × (map (λ e. e.outcome) events ≡ outcomes (elements old) (map (λ e. e.call) events))
happens_found old new [] each run = (ap elements run, refl)
happens_found old new (e ∷ es) each run =
    let here = found e.call old run.0 e.outcome (All-head (λ (event : Event). event.outcome ≢ NoMemory) e es each) run.1 in
    let rest = happens_found run.0 new es (All-tail (λ (event : Event). event.outcome ≢ NoMemory) e es each) run.2 in
    (cc, cc)

pub happens_agree : (a b new_a new_b : List Bool) (events others : List Event) → elements a ≡ elements b → map (λ e. e.call) events ≡ map (λ e. e.call) others
    → All (λ e. e.outcome ≢ NoMemory) events → All (λ e. e.outcome ≢ NoMemory) others → Happens a events new_a
    → Happens b others new_b → (elements new_a ≡ elements new_b) × (map (λ e. e.outcome) events ≡ map (λ e. e.outcome) others)
happens_agree a b new_a new_b events others same calls each other run other_run =
    let first = happens_found a new_a events each run in
    let second = happens_found b new_b others other other_run in
    (cc, cc)

-- ---- an end that went out, and members that moved

changes_popped_first : (old new : List Bool) (x : ℕ) → elements old ≡ x ∷ elements new → Changes PopFirst old (Gave (Some x)) new
unfolding Changes
changes_popped_first old new x is = (sym (ap (drop 1) is), sym (ap (λ s. Gave (slice_get s 0)) is))

pub changes_popped : (old new : List Bool) (r : Option ℕ) → YieldsFirst elements old r new → Changes PopFirst old (Gave r) new
unfolding Changes
changes_popped old new None none = (none.1 ∙ sym (ap (drop 1) none.0), sym (ap (λ s. Gave (slice_get s 0)) none.0))
changes_popped old new (Some x) is = changes_popped_first old new x is

pub changes_popped_last : (old new : List Bool) (x : ℕ) → elements old ≡ elements new ++ x ∷ [] → Changes PopLast old (Gave (Some x)) new
unfolding Changes
changes_popped_last old new x is =
    let rest = elements new in
    let whole = rest ++ x ∷ [] in
    let long : length whole - 1 ≡ length rest = omega (arith, length-append rest (x ∷ [])) in
    let front : take (length whole - 1) whole ≡ rest = ap (λ n. take n whole) long ∙ take-append_seam rest (x ∷ []) in
    let at : slice_get whole (length whole - 1) ≡ Some x =
    ap (slice_get whole) long ∙ slice_get-get_or whole (length rest) x (omega (arith, length-append rest (x ∷ [])))
    ∙ ap Some (get_or-append_right rest (x ∷ []) (length rest) (length rest) x refl (omega arith) ∙ ap (λ n. get_or (x ∷ []) n x) (let e : length rest - length rest ≡ 0 = omega arith in e)) in
    (sym (ap (λ s. take (length s - 1) s) is ∙ front), ap Gave (sym (ap (λ s. slice_get s (length s - 1)) is ∙ at)))

pub changes_raised : (d : ℕ) (old new : List Bool) → bound_of (raised (elements old) d) ≤ greatest → elements new ≡ raised (elements old) d → Changes (ShiftUp d) old Done new
unfolding Changes
changes_raised d old new fits is = grind (arith, nat_tests)
