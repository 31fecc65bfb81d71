-- What calls on a range of indexes see and change. The range from a to b has the indexes from a on and below b; where
-- b ≤ a it has none.
use Rattle.std.specs.Prelude.{ℕ, ◌-◌, ◌++◌, max, Bool, ◌&&◌, nat_le, nat_lt, List, drop, map, take}

-- whether the range from a to b has index i
abbrev pub in_range : ℕ → ℕ → ℕ → Bool
in_range a b i = nat_le a i && nat_lt i b

-- the values in the range
abbrev pub values_in_range : ℕ → ℕ → List Bool → List Bool
values_in_range a b values = take (b - a) (drop a values)

-- the list where each value in the range became what f says: those before the range, those in it, those past it
abbrev pub changed_in_range : (Bool → Bool) → ℕ → ℕ → List Bool → List Bool
changed_in_range f a b values = take a values ++ (map f (values_in_range a b values) ++ drop (max a b) values)
