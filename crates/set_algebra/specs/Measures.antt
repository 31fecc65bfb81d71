-- What becomes less in a loop to a fixed point.
use Rattle.std.specs.Prelude.{ℕ, ◌+◌, ◌-◌, ◌*◌, ◌^◌, List, length}

-- a bound on the turns to come: in each the set grows, or else something pending goes
abbrev pub turns_left : List ℕ → List ℕ → ℕ
turns_left set pending = (2 ^ 64 - length set) * 2 ^ 64 + length pending
