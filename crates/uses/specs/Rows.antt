-- Sets of numbers that lead on, each number to what is in its row.
use Rattle.std.specs.Prelude.{◌≡◌, ℕ, ◌<◌, false, IsTrue, List, length, slice_index_or}
use Rattle.bit_set.specs.{Bits.Bits, Members.IsSubset, Sets.{elements, has}}

-- the set has, with each member, what is in its row
abbrev pub IsClosed : List Bits → List ℕ → Type 0
IsClosed rows set = (x : ℕ) (d : Bits) → x < length rows → IsTrue (has set x)
    → IsSubset (elements (slice_index_or rows x d).values) set

-- the same, but for the members that are pending
abbrev pub IsClosedBut : List Bits → List ℕ → List ℕ → Type 0
IsClosedBut rows set pending = (x : ℕ) (d : Bits) → x < length rows → IsTrue (has set x) → has pending x ≡ false
    → IsSubset (elements (slice_index_or rows x d).values) set

-- each closed set that has what is in `old` has what is in `new`
abbrev pub ReachesOnly : List Bits → List ℕ → List ℕ → Type 0
ReachesOnly rows old new = (other : List ℕ) → IsSubset old other → IsClosed rows other → IsSubset new other
