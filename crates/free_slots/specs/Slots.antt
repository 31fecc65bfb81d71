-- Numbered slots, each of them free or taken.
use Rattle.std.specs.Prelude.{◌≡◌, ◌≢◌, ℕ, ◌+◌, ◌<◌, ◌≤◌, ◌&&◌, nat_lt, not, Bool, false, IsTrue, List}
use Rattle.std.specs.List.{range_with_len}
use Rattle.bit_set.specs.{Ranges.span, Sets.{difference, has}}

-- What contracts see of slots: how many there are, and which of them are free, in ascending order.
pub record SlotTable : Type 0 where
  pub len : ℕ
  pub free : List ℕ

-- n slots, of which each is free
abbrev pub all_free : ℕ → SlotTable
all_free n = record { len = n; free = range_with_len 0 n }

-- whether a slot is taken: it is one of the slots, and not free
abbrev pub is_taken : SlotTable → ℕ → Bool
is_taken s slot = nat_lt slot s.len && not (has s.free slot)

-- no number below `from` is in s
abbrev pub HasNoneBelow : List ℕ → ℕ → Type 0
HasNoneBelow s from = (n : ℕ) → n < from → has s n ≡ false

-- the same, but `given` may be in s
abbrev pub HasNoneBut : List ℕ → ℕ → ℕ → Type 0
HasNoneBut s given from = (n : ℕ) → n < from → n ≢ given → has s n ≡ false

-- the slot is free, and no slot below it is free, of those from `from` on
pub record IsLowestFree (s : SlotTable) (from slot : ℕ) : Type 0 where
  pub free : IsTrue (has s.free slot)
  pub inside : slot < s.len
  pub above : from ≤ slot
  pub lowest : (other : ℕ) → from ≤ other → other < slot → has s.free other ≡ false

-- so many slots in a row are free, from `first` on
pub record IsFreeRun (s : SlotTable) (count first : ℕ) : Type 0 where
  pub free : (slot : ℕ) → first ≤ slot → slot < first + count → IsTrue (has s.free slot)
  pub inside : first + count ≤ s.len

-- so many are, and no so many that begin below `first`
pub record IsLowestRun (s : SlotTable) (count first : ℕ) : Type 0 where
  pub run : IsFreeRun s count first
  pub lowest : (other : ℕ) → other < first → IsFreeRun s count other → ⊥

-- the free slots without those
abbrev pub without_run : List ℕ → ℕ → ℕ → List ℕ
without_run free count first = difference free (span first (first + count))
