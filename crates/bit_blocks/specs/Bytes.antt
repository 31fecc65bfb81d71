-- A list of truth values given as bytes. Of the public clauses only those of `packed` cite this.
use Rattle.std.specs.Prelude.{ℕ, ◌-◌, ◌/◌, ◌%◌, Bool, List, get_or}
use Rattle.bit_blocks.specs.Digits.{is_one}

-- value i of a list of bytes, the highest digit of each byte first
unfoldable pub byte_value : List ℕ → ℕ → Bool
byte_value bytes i = is_one (get_or bytes (i / 8) 0) (7 - i % 8)

-- value i of a list of bytes, where value j of a byte is its digit `place j`
unfoldable pub placed_value : (ℕ → ℕ) → List ℕ → ℕ → Bool
placed_value place bytes i = is_one (get_or bytes (i / 8) 0) (place (i % 8))
