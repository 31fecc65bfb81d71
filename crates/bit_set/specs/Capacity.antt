-- What calls do to the capacity of a set.
use Rattle.std.specs.Prelude.{◌≡◌, ℕ, ◌≤◌, Bool, IsTrue, List, [], ◌∷◌, ⊤}
use Rattle.bit_blocks.specs.Bits.{blocks_for, capacity_of}
use Rattle.bit_set.specs.declared.faults.SetError.{SetError, TheVariants.{Element, Length, Memory}}

-- Calls on a set, one after another: each with the capacity that it needs, and whether it succeeded. Where it found that
-- capacity it succeeded, and the capacity stayed.
abbrev pub Run : ℕ → List (ℕ × Bool) → ℕ → Type 0
Run old [] new = new ≡ old
Run old (c ∷ cs) new = (next : ℕ) × (c.0 ≤ old → IsTrue c.1 × (next ≡ old)) × Run next cs new

-- a set of length n, in blocks of w, did not take the item in, and for memory only where it is past the blocks of
-- the set
abbrev pub IsPastBlocks : SetError → ℕ → ℕ → ℕ → Type 0
IsPastBlocks Element w n item = ⊤
IsPastBlocks Length w n item = ⊤
IsPastBlocks (Memory fault) w n item = capacity_of w (blocks_for w n) ≤ item
