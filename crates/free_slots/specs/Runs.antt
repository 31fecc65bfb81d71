-- Calls on slots, one after another, and what a reader of their results alone can say of them.
use Rattle.std.specs.Prelude.{◌≡◌, ℕ, ◌+◌, ◌<◌, ◌≤◌, ◌==◌, ◌&&◌, nat_le, nat_lt, if◌then◌else◌, Bool, true, false, List, [], ◌∷◌, Option, Some, None}
use Rattle.bit_set.specs.Sets.{has, put, without}
use Rattle.free_slots.specs.Slots.{SlotTable, IsFreeRun, IsLowestFree, IsLowestRun, is_taken, without_run}

-- A call, with what it returned. `take` takes from 0 on.
pub data Event : Type 0 where
  Take : (from : ℕ) → (result : Option ℕ) → Event
  GiveBack : (slot : ℕ) → (result : Bool) → Event
  TakeRun : (count : ℕ) → (result : Option ℕ) → Event

-- what a call does to the slots
abbrev pub Happens : SlotTable → Event → SlotTable → Type 0
Happens old (Take from (Some slot)) new =
    IsLowestFree old from slot × (new ≡ record { len = old.len; free = without old.free slot })
Happens old (Take from None) new = ((slot : ℕ) → from ≤ slot → has old.free slot ≡ false) × (new ≡ old)
Happens old (GiveBack slot true) new =
    (is_taken old slot ≡ true) × (new ≡ record { len = old.len; free = put old.free slot })
Happens old (GiveBack slot false) new = (is_taken old slot ≡ false) × (new ≡ old)
Happens old (TakeRun count (Some first)) new =
    IsLowestRun old count first × (new ≡ record { len = old.len; free = without_run old.free count first })
Happens old (TakeRun count None) new = ((first : ℕ) → IsFreeRun old count first → ⊥) × (new ≡ old)

-- Calls, one after another.
abbrev pub Run : SlotTable → List Event → SlotTable → Type 0
Run old [] new = new ≡ old
Run old (e ∷ es) new = (next : SlotTable) × Happens old e next × Run next es new

-- how often a slot was taken
abbrev pub times_taken : ℕ → List Event → ℕ
times_taken slot [] = 0
times_taken slot (Take from (Some taken) ∷ es) = (if taken == slot then 1 else 0) + times_taken slot es
times_taken slot (Take from None ∷ es) = times_taken slot es
times_taken slot (GiveBack given result ∷ es) = times_taken slot es
times_taken slot (TakeRun count (Some first) ∷ es) =
    (if nat_le first slot && nat_lt slot (first + count) then 1 else 0) + times_taken slot es
times_taken slot (TakeRun count None ∷ es) = times_taken slot es

-- how often it was given back
abbrev pub times_given : ℕ → List Event → ℕ
times_given slot [] = 0
times_given slot (Take from result ∷ es) = times_given slot es
times_given slot (GiveBack given true ∷ es) = (if given == slot then 1 else 0) + times_given slot es
times_given slot (GiveBack given false ∷ es) = times_given slot es
times_given slot (TakeRun count result ∷ es) = times_given slot es

-- the slot was taken, and not given back since
abbrev pub IsHeld : List Event → ℕ → Type 0
IsHeld events slot = times_given slot events < times_taken slot events

-- of n slots the lowest that is not held, of those from `from` on
pub record IsLowestUnheld (n : ℕ) (events : List Event) (from slot : ℕ) : Type 0 where
  pub free : IsHeld events slot → ⊥
  pub inside : slot < n
  pub above : from ≤ slot
  pub lowest : (other : ℕ) → from ≤ other → other < slot → IsHeld events other

-- each of so many slots, from `first` on, is one of n and is not held
pub record IsUnheldRun (n : ℕ) (events : List Event) (count first : ℕ) : Type 0 where
  pub unheld : (slot : ℕ) → first ≤ slot → slot < first + count → IsHeld events slot → ⊥
  pub inside : first + count ≤ n
