-- Which numbers are in a set after a call: of every number, whether it is in.
use Rattle.std.specs.Prelude.{◌≡◌, ℕ, ◌-◌, ◌/◌, ◌%◌, ◌≤◌, Bool, false, not, ◌&&◌, ◌||◌, ◌==◌, if◌then◌else◌, IsTrue, nat_le, nat_lt, List, get_or, length, slice_index}
use Rattle.std.specs.Int.{bit_at}
use Rattle.bit_blocks.specs.{Merges.merge_of_values, Ranges.in_range, declared.block.merge.Merge.Merge}
use Rattle.bit_blocks.specs.Bounds.{greatest}
use Rattle.set_algebra.specs.Sets.{elements, has}

-- no number is in the set
abbrev pub HasNone : List ℕ → Type 0
HasNone s = (n : ℕ) → has s n ≡ false

-- the same numbers are in both sets
abbrev pub IsSameSet : List ℕ → List ℕ → Type 0
IsSameSet s t = (n : ℕ) → has s n ≡ has t n

-- `new` has the value exactly if b is true, and each other number exactly if `old` has
abbrev pub Updates : List ℕ → List ℕ → ℕ → Bool → Type 0
Updates old new value b = (n : ℕ) → has new n ≡ (if value == n then b else has old n)

-- `new` has what f says of each number in the range from a to b, and each other number exactly if `old` has
abbrev pub UpdatesRange : (Bool → Bool) → List ℕ → List ℕ → ℕ → ℕ → Type 0
UpdatesRange f old new a b = (n : ℕ) → has new n ≡ (if in_range a b n then f (has old n) else has old n)

-- `new` has what `old` has below n
abbrev pub KeepsBelow : List ℕ → List ℕ → ℕ → Type 0
KeepsBelow old new n = (m : ℕ) → has new m ≡ (nat_lt m n && has old m)

-- `new` has what `old` has from n on
abbrev pub KeepsFrom : List ℕ → List ℕ → ℕ → Type 0
KeepsFrom old new n = (m : ℕ) → has new m ≡ (nat_le n m && has old m)

-- x is in the set s, and the least in it; t has the others
pub record TakesLeast (s : List ℕ) (x : ℕ) (t : List ℕ) : Type 0 where
  pub is_in : IsTrue (has s x)
  pub least : (n : ℕ) → IsTrue (has s n) → x ≤ n
  pub others : Updates s t x false

-- x is in the set s, and the greatest in it; t has the others
pub record TakesGreatest (s : List ℕ) (x : ℕ) (t : List ℕ) : Type 0 where
  pub is_in : IsTrue (has s x)
  pub greatest : (n : ℕ) → IsTrue (has s n) → n ≤ x
  pub others : Updates s t x false

-- each number of the set s is in t
abbrev pub IsSubset : List ℕ → List ℕ → Type 0
IsSubset s t = (n : ℕ) → IsTrue (has s n) → IsTrue (has t n)

-- no number is in both sets
abbrev pub IsDisjoint : List ℕ → List ℕ → Type 0
IsDisjoint s t = (n : ℕ) → IsTrue (has s n) → has t n ≡ false

-- r has what is in s or in t
abbrev pub IsUnion : List ℕ → List ℕ → List ℕ → Type 0
IsUnion s t r = (n : ℕ) → has r n ≡ (has s n || has t n)

-- r has what is in s, and what is in t and not in u
abbrev pub IsUnionWithDifference : List ℕ → List ℕ → List ℕ → List ℕ → Type 0
IsUnionWithDifference s t u r = (n : ℕ) → has r n ≡ (has s n || (has t n && not (has u n)))

-- r has what is in s, and what is in both t and u
abbrev pub IsUnionWithIntersection : List ℕ → List ℕ → List ℕ → List ℕ → Type 0
IsUnionWithIntersection s t u r = (n : ℕ) → has r n ≡ (has s n || (has t n && has u n))

-- r has what is in both
abbrev pub IsIntersection : List ℕ → List ℕ → List ℕ → Type 0
IsIntersection s t r = (n : ℕ) → has r n ≡ (has s n && has t n)

-- r has what is in s and not in t
abbrev pub IsDifference : List ℕ → List ℕ → List ℕ → Type 0
IsDifference s t r = (n : ℕ) → has r n ≡ (has s n && not (has t n))

-- r has what is in just one of s and t
abbrev pub IsSymmetricDifference : List ℕ → List ℕ → List ℕ → Type 0
IsSymmetricDifference s t r = (n : ℕ) → has r n ≡ (if has s n then not (has t n) else has t n)

-- r has what the operation makes of s and t
abbrev pub IsMerged : Merge → List ℕ → List ℕ → List ℕ → Type 0
IsMerged merge s t r = (n : ℕ) → has r n ≡ merge_of_values merge (has s n) (has t n)

-- the set has each index at which the list is true, and nothing else
abbrev pub HasTrueOf : List ℕ → List Bool → Type 0
HasTrueOf s values = (n : ℕ) → has s n ≡ get_or values n false

-- the set has each number whose bit in the bytes is 1: that of n is in byte n / 8, counted from the highest
abbrev pub HasBitsOf : List ℕ → List ℕ → Type 0
HasBitsOf s bytes = (n : ℕ) → has s n ≡ (bit_at (slice_index bytes (n / 8)) (7 - n % 8) == 1)

-- the same where the bits of a byte are counted from the lowest
abbrev pub HasLowBitsOf : List ℕ → List ℕ → Type 0
HasLowBitsOf s bytes = (n : ℕ) → has s n ≡ (bit_at (slice_index bytes (n / 8)) (n % 8) == 1)

-- The elements of a list of truth values are no more than it is long, and its length is a `usize`.
pub record IsCounted (values : List Bool) : Type 0 where
  pub at_most : length (elements values) ≤ length values
  pub fits : length values ≤ greatest
