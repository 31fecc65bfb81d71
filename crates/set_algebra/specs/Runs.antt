-- The runs of a set, which are the longest ranges of members, and proper subsets.
use Rattle.std.specs.{Prelude.{◌≡◌, ℕ, ◌+◌, ◌<◌, ◌≤◌, ◌==◌, Bool, false, if◌then◌else◌, IsTrue, List, [], ◌∷◌, Option, MatchOption, ⊤}, Iterator.YieldsFirst, List.list_any}
use Rattle.std.specs.declared.ops.Range.{Range}
use Rattle.bit_blocks.specs.Ranges.{in_range}
use Rattle.set_algebra.specs.{Members.{HasNone, IsSubset, KeepsFrom}, Sets.has}

-- each number of the set s is in t, which has one more at least
abbrev pub IsProperSubset : List ℕ → List ℕ → Type 0
IsProperSubset s t = IsSubset s t × ((n : ℕ) × IsTrue (has t n) × (has s n ≡ false))

-- a number before runs of greater ones: it makes the first longer where it touches it, and else is a run of its own
abbrev pub put_before : ℕ → List (Range ℕ) → List (Range ℕ)
put_before n [] = record { start = n; end = n + 1 } ∷ []
put_before n (r ∷ rs) = if n + 1 == r.start then record { start = n; end = r.end } ∷ rs else record { start = n; end = n + 1 } ∷ r ∷ rs

-- the runs of a set, in ascending order
abbrev pub runs_of : List ℕ → List (Range ℕ)
runs_of [] = []
runs_of (n ∷ ns) = put_before n (runs_of ns)

-- whether a number is in one of some ranges
abbrev pub in_ranges : List (Range ℕ) → ℕ → Bool
in_ranges rs n = list_any (λ r. in_range r.start r.end n) rs

-- each range has a number, the first begins at `low` or above, and each other past the end of the one before it, with a
-- number between them that is in neither
abbrev pub AreApartFrom : ℕ → List (Range ℕ) → Type 0
AreApartFrom low [] = ⊤
AreApartFrom low (r ∷ rs) = (low ≤ r.start) × (r.start < r.end) × AreApartFrom (r.end + 1) rs

-- The ranges are the runs of the set: their numbers are just its members, and they ascend and do not touch, so that none
-- of them can be longer.
pub record AreRuns (s : List ℕ) (rs : List (Range ℕ)) : Type 0 where
  pub members : (n : ℕ) → in_ranges rs n ≡ has s n
  pub apart : AreApartFrom 0 rs

-- The range is the first run of the set: all its numbers are members, those before it and the one at its end are not.
pub record IsFirstRun (s : List ℕ) (run : Range ℕ) : Type 0 where
  pub some : run.start < run.end
  pub all : (n : ℕ) → run.start ≤ n → n < run.end → IsTrue (has s n)
  pub before : (n : ℕ) → n < run.start → has s n ≡ false
  pub past : has s run.end ≡ false

-- What contracts see of a walk over runs: the members that are left, and the range that is left to look at.
pub record RunsWalk : Type 0 where
  pub members : List ℕ
  pub start : ℕ
  pub end : ℕ

-- A call of `next` on s gave r and left t: the first run of what was left, and the range past it, or None at the end,
-- which stays.
pub record PassesRun (s : RunsWalk) (r : Option (Range ℕ)) (t : RunsWalk) : Type 0 where
  pub item : YieldsFirst (λ walk. runs_of walk.members) s r t
  pub first : MatchOption r (HasNone s.members) (IsFirstRun s.members)
  pub rest : MatchOption r (HasNone t.members) (λ run. KeepsFrom s.members t.members run.end)
  pub start : MatchOption r (t.start ≡ s.end) (λ run. t.start ≡ run.end)
  pub end : t.end ≡ s.end
