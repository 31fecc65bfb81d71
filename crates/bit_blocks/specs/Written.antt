-- What is left of blocks that were written, one by one or at the end of a vector. Of the public clauses only those of `packed`
-- cite this.
use Rattle.std.specs.{Prelude.{◌≡◌, ℕ, All, length, List, vec_capacity, vec_len}, Global.Vec}

-- Some blocks of a list were written: each is a block value, and there are as many.
pub record WritesBlocks {X : Type 0} (is_block : X → Type 0) (old new : List X) : Type 0 where
  pub each : All is_block new
  pub len : length new ≡ length old

-- A vector has these items, as many as are said, and this capacity.
pub record Holds {X : Type 0} (list : List X) (count room : ℕ) (blocks : Vec X) : Type 0 where
  pub items : blocks.items ≡ list
  pub len : vec_len blocks ≡ count
  pub capacity : vec_capacity blocks ≡ room

-- A vector has so many blocks, each a block value, and this capacity.
pub record HasBlocks {X : Type 0} (is_block : X → Type 0) (count room : ℕ) (blocks : Vec X) : Type 0 where
  pub each : All is_block blocks.items
  pub len : vec_len blocks ≡ count
  pub capacity : vec_capacity blocks ≡ room
