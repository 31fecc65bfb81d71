-- How sets compare: as the lists of their members in ascending order, and by nothing else.
use Rattle.std.specs.{Prelude.{ℕ, Bool, List, nat_eq}, List.flat_map, Cmp.Lexicographic.{pointwise, slice_cmp}, Ordering.nat_cmp, declared.cmp.Ordering.Ordering}
use Rattle.std.specs.Hash as fed

-- whether two sets are the same
abbrev pub same_sets : List ℕ → List ℕ → Bool
same_sets s t = pointwise nat_eq s t

-- At the first index where the lists differ the smaller number comes first; where one list is a front of the
-- other, the shorter does.
abbrev pub order_of_sets : List ℕ → List ℕ → Ordering
order_of_sets s t = slice_cmp nat_cmp s t

-- what a hasher is fed: each member as a `usize`, with nothing before it and nothing after
abbrev pub fed_of_set : List ℕ → List (List ℕ)
fed_of_set s = flat_map fed.usize s
