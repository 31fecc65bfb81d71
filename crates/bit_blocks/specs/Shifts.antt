-- What a block becomes where the bits of a list move. No public clause cites this.
use Rattle.std.specs.Prelude.{◌≡◌, ℕ, ◌+◌, ◌-◌, ◌*◌, ◌<◌, ◌&&◌, nat_le, List}
use Rattle.bit_blocks.specs.{Digits.is_one, Storage.value_at}

-- each digit of m, the new block k, is the value `distance` below its place, and 0 where that is below the first
abbrev pub IsMovedUp : ℕ → List ℕ → ℕ → ℕ → ℕ → Type 0
IsMovedUp w ms distance k m = (j : ℕ) → j < w
    → is_one m j ≡ (nat_le distance (k * w + j) && value_at w ms (k * w + j - distance))

-- each digit of m, the new block k, is the value `distance` above its place
abbrev pub IsMovedDown : ℕ → List ℕ → ℕ → ℕ → ℕ → Type 0
IsMovedDown w ms distance k m = (j : ℕ) → j < w → is_one m j ≡ value_at w ms (k * w + j + distance)
