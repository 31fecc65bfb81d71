-- The numbers of a range, and the part of a set in it. The range from a to b has the numbers from a on and below b; where
-- b ≤ a it has none.
use Rattle.std.specs.{Prelude.{ℕ, ◌-◌, nat_lt, if◌then◌else◌, List, filter}, List.range_with_len}
use Rattle.bit_blocks.specs.Ranges.{in_range}

-- its numbers in ascending order: a set
unfoldable pub span : ℕ → ℕ → List ℕ
span a b = range_with_len a (b - a)

-- one above the greatest of them, 0 where there are none
abbrev pub span_end : ℕ → ℕ → ℕ
span_end a b = if nat_lt a b then b else 0

-- those of the set that are in it
abbrev pub those_in_range : List ℕ → ℕ → ℕ → List ℕ
those_in_range xs a b = filter (in_range a b) xs
