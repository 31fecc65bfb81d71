-- What calls make of the elements of a set, and what they return. No block, length or capacity occurs in it.
use Rattle.std.specs.List.{items_where_true}
use Rattle.std.specs.Prelude.{◌≡◌, ℕ, ◌-◌, ◌==◌, max, not, if◌then◌else◌, Bool, List, [], ◌∷◌, ◌++◌, Option, Result, Ok, Err, drop, length, nat_le, slice_get, take}
use Rattle.set_algebra.specs.{Moved.{lowered, raised}, Order.same_sets, Sets.merge_of_sets}
use Rattle.bit_set.specs.declared.faults.SetError.{SetError, TheVariants.{Element, Length, Memory}}
use Rattle.set_algebra.specs.{Sets.{bound_of, difference, elements, has, intersection, put, put_all, symmetric_difference, those_below, those_from, union, without}, Ranges.span}
use Rattle.bit_blocks.specs.declared.block.merge.Merge.{Merge}
use Rattle.bit_words.specs.Bounds.{greatest}

-- a call that changes a set, with what it is given: numbers, and of a second set its elements
pub data Change : Type 0 where
  Insert : (value : ℕ) → Change
  Extend : (items : List ℕ) → Change
  Remove : (value : ℕ) → Change
  Toggle : (value : ℕ) → Change
  Set : (value : ℕ) → (bit : Bool) → Change
  InsertRange : (start : ℕ) → (end : ℕ) → Change
  RemoveRange : (start : ℕ) → (end : ℕ) → Change
  ToggleRange : (start : ℕ) → (end : ℕ) → Change
  Truncate : (len : ℕ) → Change
  MakeEmpty : Change
  Reset : Change
  CloneFrom : (other : List ℕ) → Change
  UnionWith : (other : List ℕ) → Change
  IntersectWith : (other : List ℕ) → Change
  DifferenceWith : (other : List ℕ) → Change
  SymmetricDifferenceWith : (other : List ℕ) → Change
  MergeChanges : (merge : Merge) (other : List ℕ) → Change
  CopyDifference : (other : List ℕ) (except : List ℕ) → Change
  Append : (other : List ℕ) → Change
  SplitOff : (at : ℕ) → Change
  ReserveLen : (len : ℕ) → Change
  ReserveLenExact : (len : ℕ) → Change
  ShrinkToFit : Change
  PopFirst : Change
  PopLast : Change
  Retain : (answers : List Bool) → Change
  ShiftUp : (distance : ℕ) → Change
  ShiftDown : (distance : ℕ) → Change

-- How a call returned: it was done; the same, and it returned this, or gave this element; the number is `usize::MAX`; no
-- memory was found.
pub data Outcome : Type 0 where
  Done : Outcome
  Returned : (value : Bool) → Outcome
  Gave : (element : Option ℕ) → Outcome
  NoElement : Outcome
  NoMemory : Outcome

-- the elements after a call that found memory; an `extend` is given the items that went in, and a `retain` what its closure
-- returned
abbrev pub elements_after : Change → List ℕ → List ℕ
elements_after (Insert value) s = if value == greatest then s else put s value
elements_after (Extend items) s = put_all s items
elements_after (Remove value) s = without s value
elements_after (Toggle value) s = if value == greatest then s else (if has s value then without s value else put s value)
elements_after (Set value bit) s = if bit then (if value == greatest then s else put s value) else without s value
elements_after (InsertRange start end) s = union s (span start end)
elements_after (RemoveRange start end) s = those_below s start ++ those_from s (max start end)
elements_after (ToggleRange start end) s = symmetric_difference s (span start end)
elements_after (Truncate len) s = those_below s len
elements_after MakeEmpty s = []
elements_after Reset s = []
elements_after (CloneFrom other) s = other
elements_after (UnionWith other) s = union s other
elements_after (IntersectWith other) s = intersection s other
elements_after (DifferenceWith other) s = difference s other
elements_after (SymmetricDifferenceWith other) s = symmetric_difference s other
elements_after (MergeChanges merge other) s = merge_of_sets merge s other
elements_after (CopyDifference other except) s = difference other except
elements_after (Append other) s = union s other
elements_after (SplitOff at) s = those_below s at
elements_after (ReserveLen len) s = s
elements_after (ReserveLenExact len) s = s
elements_after ShrinkToFit s = s
elements_after PopFirst s = drop 1 s
elements_after PopLast s = take (length s - 1) s
elements_after (Retain answers) s = items_where_true answers s
elements_after (ShiftUp distance) s = if nat_le (bound_of (raised s distance)) greatest then raised s distance else s
elements_after (ShiftDown distance) s = lowered s distance

-- how it returns: `insert` whether the number is new, `remove` whether it was in, `toggle` whether it is in now, `set`
-- and a merge that tells so, and a copied difference, whether the set changed, `pop_first` the first element and `pop_last` the last
abbrev pub outcome_of : Change → List ℕ → Outcome
outcome_of (Insert value) s = if value == greatest then NoElement else Returned (not (has s value))
outcome_of (Remove value) s = Returned (has s value)
outcome_of (Toggle value) s = if value == greatest then NoElement else Returned (not (has s value))
outcome_of (Set value bit) s =
    if bit then (if value == greatest then NoElement else Returned (not (has s value))) else Returned (has s value)
outcome_of (MergeChanges merge other) s = Returned (not (same_sets s (merge_of_sets merge s other)))
outcome_of (CopyDifference other except) s = Returned (not (same_sets s (difference other except)))
outcome_of PopFirst s = Gave (slice_get s 0)
outcome_of PopLast s = Gave (slice_get s (length s - 1))
outcome_of (ShiftUp distance) s = if nat_le (bound_of (raised s distance)) greatest then Done else NoElement
outcome_of call s = Done

-- The call found the list `old` and left `new`, and this is how it returned. It is not opened where a proof does not ask
-- for it: a loop over a set goes by the other clauses of each call.
unfoldable pub Changes : Change → List Bool → Outcome → List Bool → Type 0
Changes call old NoMemory new = elements new ≡ elements old
Changes call old outcome new =
    (elements new ≡ elements_after call (elements old)) × (outcome ≡ outcome_of call (elements old))

-- how `insert`, `toggle` and `set` returned
abbrev pub outcome_of_insert : Result Bool SetError → Outcome
outcome_of_insert (Ok new) = Returned new
outcome_of_insert (Err Element) = NoElement
outcome_of_insert (Err Length) = NoMemory
outcome_of_insert (Err (Memory fault)) = NoMemory

-- how `shift_up` returned
abbrev pub outcome_of_shift : Result Unit SetError → Outcome
outcome_of_shift (Ok tt) = Done
outcome_of_shift (Err Element) = NoElement
outcome_of_shift (Err Length) = NoMemory
outcome_of_shift (Err (Memory fault)) = NoMemory

-- how a call returned that fails for memory alone
abbrev pub outcome_of_result : {T E : Type 0} → Result T E → Outcome
outcome_of_result (Ok x) = Done
outcome_of_result (Err fault) = NoMemory

-- how a call returned that tells whether the set changed, and fails for memory alone
abbrev pub outcome_of_flag : {E : Type 0} → Result Bool E → Outcome
outcome_of_flag (Ok changed) = Returned changed
outcome_of_flag (Err fault) = NoMemory

-- a call, and how it returned
pub record Event : Type 0 where
  pub call : Change
  pub outcome : Outcome

-- Calls on a set, one after another.
abbrev pub Happens : List Bool → List Event → List Bool → Type 0
Happens old [] new = new ≡ old
Happens old (e ∷ es) new = (next : List Bool) × Changes e.call old e.outcome next × Happens next es new

-- the elements after calls that found memory
abbrev pub set_after : List ℕ → List Change → List ℕ
set_after s [] = s
set_after s (call ∷ calls) = set_after (elements_after call s) calls

-- how they return
abbrev pub outcomes : List ℕ → List Change → List Outcome
outcomes s [] = []
outcomes s (call ∷ calls) = outcome_of call s ∷ outcomes (elements_after call s) calls
