-- What a merge of some values of a list leaves of it.
use Rattle.std.specs.Prelude.{◌≡◌, ℕ, ◌<◌, ◌≤◌, Bool, false, List, get_or, length}
use Rattle.bit_blocks.specs.{Merges.merge_of_values, declared.block.merge.Merge.Merge}

-- The values from start on and below end became what they merge to with those of another list, which is false past its
-- end; the others stayed.
pub record MergesBetween (merge : Merge) (start end : ℕ) (old others new : List Bool) : Type 0 where
  pub len : length new ≡ length old
  pub inside : (i : ℕ) → start ≤ i → i < end
      → get_or new i false ≡ merge_of_values merge (get_or old i false) (get_or others i false)
  pub before : (i : ℕ) → i < start → get_or new i false ≡ get_or old i false
  pub after : (i : ℕ) → end ≤ i → get_or new i false ≡ get_or old i false
