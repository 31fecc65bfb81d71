-- What calls that merge two sets write into an array of C's.
use Rattle.std.specs.Prelude.{◌≡◌, ℕ, ◌+◌, ◌*◌, ◌<◌, Bool, drop, length, List, max, slice_index}
use Rattle.bit_blocks.specs.{Bits.blocks_of, Digits.is_one, Merges.merge_of_values, declared.block.merge.Merge.Merge}
use Rattle.bit_set.specs.Sets.{elements, has}
use Rattle.c_handles.specs.Copies.{FillsFront}
use Rattle.bit_set_c.specs.Block.{width}

-- These are the blocks, from an index on, of what the sets of two lists of values become.
pub record CopiesMerged (merge : Merge) (a b : List Bool) (from written : ℕ) (old new : List ℕ) : Type 0 where
  pub fills : FillsFront written (max (length (drop from (blocks_of width a))) (length (drop from (blocks_of width b)))) old new
  pub members : (k j : ℕ) → k < written → j < width → is_one (slice_index new k) j
      ≡ merge_of_values merge (has (elements a) ((from + k) * width + j)) (has (elements b) ((from + k) * width + j))
