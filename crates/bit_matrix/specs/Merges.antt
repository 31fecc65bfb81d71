-- What blocks of a list become by a merge with others, digit by digit. No public clause cites this.
use Rattle.std.specs.Prelude.{◌≡◌, ◌≢◌, ℕ, ◌+◌, ◌<◌, ◌≤◌, ◌⊎◌, ◌↔◌, All, Bool, false, List, get_or, length, map}
use Rattle.bit_blocks.specs.{BlockMerges.{other_at, HasMerged, Stay}, Digits.is_one, Merges.merge_of_values, declared.block.merge.Merge.Merge}

-- So many blocks of ms from `write` on became in ns what they merge to with those of os from `read` on; the others are
-- those of ms.
pub record IsMergedPart (merge : Merge) (w read write count : ℕ) (ms os ns : List ℕ) : Type 0 where
  pub digit : (k j : ℕ) → k < count → j < w
      → is_one (get_or ns (write + k) 0) j
      ≡ merge_of_values merge (is_one (get_or ms (write + k) 0) j) (is_one (get_or os (read + k) 0) j)
  pub others : (q : ℕ) → ((k : ℕ) → k < count → q ≢ write + k) → get_or ns q 0 ≡ get_or ms q 0

-- A call merged so many blocks from `write` on with those of os from `read` on, and said whether one of them changed. Each is
-- a block value, and there are as many as there were.
pub record MergesPart {X : Type 0} (merge : Merge) (w : ℕ) (number : X → ℕ) (is_block : X → Type 0) (read write count : ℕ)
    (xs os ys : List X) (changed : Bool) : Type 0 where
  pub merged : IsMergedPart merge w read write count (map number xs) (map number os) (map number ys)
  pub unchanged : (changed ≡ false)
      ↔ ((k : ℕ) → k < count → get_or (map number ys) (write + k) 0 ≡ get_or (map number xs) (write + k) 0)
  pub each : All is_block ys
  pub len : length ys ≡ length xs

-- So many blocks from one on, and as many from another on, are the same or have none in common.
pub record AreApart (read write count : ℕ) : Type 0 where
  pub apart : (read ≡ write) ⊎ (read + count ≤ write ⊎ write + count ≤ read)

-- The blocks xs can be merged with the others, which are no more, while one more block says whether one changed.
pub record CanTrack {X : Type 0} (is_block : X → Type 0) (xs os : List X) (block : X) : Type 0 where
  pub fewer : length os ≤ length xs
  pub each : All is_block xs
  pub others : All is_block os
  pub seen : is_block block

-- Block k of xs is merged with that of os. A second block is 0 now just where it was, and block k stays.
pub record IsTrackedBlock {X : Type 0} (merge : Merge) (w : ℕ) (number : X → ℕ) (is_block : X → Type 0) (k : ℕ)
    (xs os : List X) (merged was now : X) : Type 0 where
  pub digit : (j : ℕ) → j < w → is_one (number merged) j
      ≡ merge_of_values merge (is_one (get_or (map number xs) k 0) j) (is_one (get_or (map number os) k 0) j)
  pub is_merged : is_block merged
  pub of_block : is_block now
  pub none : (number now ≡ 0) ↔ ((number was ≡ 0) × (get_or (map number xs) k 0 ≡ number merged))

-- The blocks xs became ys: those from start to before end are what they merge to with os. A block is 0 now just where it
-- was, and all of these stay.
pub record IsTrackedMerge {X : Type 0} (merge : Merge) (w : ℕ) (number : X → ℕ) (is_block : X → Type 0) (start end : ℕ)
    (xs os ys : List X) (was now : X) : Type 0 where
  pub has : HasMerged merge w number is_block start end (other_at (map number os)) xs ys
  pub of_block : is_block now
  pub none : (number now ≡ 0)
      ↔ ((number was ≡ 0) × Stay merge w number start end (other_at (map number os)) xs)
