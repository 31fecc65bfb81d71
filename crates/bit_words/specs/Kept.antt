-- What a call on whole blocks of a list leaves of it.
use Rattle.std.specs.Prelude.{◌≡◌, ◌≢◌, ℕ, ◌+◌, ◌*◌, ◌/◌, ◌<◌, ◌&&◌, Bool, false, List, get_or, length}
use Rattle.bit_blocks.specs.{Digits.is_one, Ranges.in_range}

-- Of the values of block k, of w digits, those stayed true at which m has a 1, and no value of another block changed.
pub record KeepsInBlock (w k m : ℕ) (old new : List Bool) : Type 0 where
  pub len : length new ≡ length old
  pub inside : (j : ℕ) → j < w → get_or new (k * w + j) false ≡ (get_or old (k * w + j) false && is_one m j)
  pub others : (i : ℕ) → i / w ≢ k → get_or new i false ≡ get_or old i false

-- Of the blocks ms those from block k on became the blocks ps, and no other changed.
pub record IsPut (k : ℕ) (ps ms ns : List ℕ) : Type 0 where
  pub inside : (q : ℕ) → q < length ps → get_or ns (k + q) 0 ≡ get_or ps q 0
  pub others : (q : ℕ) → in_range k (k + length ps) q ≡ false → get_or ns q 0 ≡ get_or ms q 0

-- The values from block k on, of w digits, became what the blocks ps have, and no other value changed.
pub record PutsBlocks (w k : ℕ) (ps : List ℕ) (old new : List Bool) : Type 0 where
  pub len : length new ≡ length old
  pub inside : (q j : ℕ) → q < length ps → j < w → get_or new ((k + q) * w + j) false ≡ is_one (get_or ps q 0) j
  pub others : (i : ℕ) → in_range (k * w) ((k + length ps) * w) i ≡ false → get_or new i false ≡ get_or old i false
