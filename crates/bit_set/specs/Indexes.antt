-- Where the ones of blocks are. No public clause cites this.
use Rattle.std.specs.Prelude.{◌≡◌, ℕ, ◌+◌, ◌-◌, ◌*◌, ◌/◌, ◌^◌, ◌<◌, ◌≤◌, Bool, true, false, List, [], ◌∷◌, ◌++◌, map, length, drop, All, Option, Some, None, MatchOption, IsSomeAnd}
use Rattle.std.specs.List.{range_with_len, flat_map}
use Rattle.bit_blocks.specs.{Digits.is_one, Merges.{merge_of_values}, declared.block.merge.Merge.Merge}
use Rattle.bit_words.specs.Nonzero.{Hand, Nonzeros}
use Rattle.set_algebra.specs.Sets.{AscendsFrom, IsAscending, elements_from, elements}
use Rattle.bit_set.specs.Walk.{Walk}

-- the w binary digits of m from digit a on, as truth values
abbrev pub digits_from : ℕ → ℕ → ℕ → List Bool
digits_from m a w = map (is_one m) (range_with_len a w)

-- the values that blocks of w digits hold
abbrev pub values_in : ℕ → List ℕ → List Bool
values_in w ms = flat_map (λ m. digits_from m 0 w) ms

-- the indexes of the ones of a block m of w digits and of the true values past it, the first digit having index
-- `index`
unfoldable pub indexes : ℕ → ℕ → ℕ → List Bool → List ℕ
indexes w index m values = elements_from index (digits_from m 0 w ++ values)

-- What lies ahead of a walk: the values of the blocks that are not yet pulled, how many these are, and how often it
-- pulled.
pub record Ahead : Type 0 where
  pub values : List Bool
  pub blocks : ℕ
  pub pulls : ℕ

-- a pull that gave r: the first block, or None where there is none, and one more pull, at the end too
pub record PullsBlock {X : Type 0} (w : ℕ) (number : X → ℕ) (s : Ahead) (r : Option X) (t : Ahead) : Type 0 where
  pub values : MatchOption r ((s.values ≡ []) × (t.values ≡ []))
      (λ x. s.values ≡ digits_from (number x) 0 w ++ t.values)
  pub blocks : MatchOption r ((s.blocks ≡ 0) × (t.blocks ≡ 0)) (λ _. s.blocks ≡ t.blocks + 1)
  pub counted : t.pulls ≡ s.pulls + 1

-- A pull that may be left out. Where it is wanted it gave r: the first block, or None, and then nothing was pulled.
-- Else nothing was pulled.
pub record PullsBlockIf {X : Type 0} (w : ℕ) (number : X → ℕ) (wanted : Bool) (s : Ahead) (r : Option X)
    (t : Ahead) : Type 0 where
  pub pulled : wanted ≡ true → MatchOption r (t ≡ s) (λ x. PullsBlock w number s (Some x) t)
  pub same : wanted ≡ false → t ≡ s

-- of w digits, r has what those of m and n become
pub record IsMergedBlock (w : ℕ) (merge : Merge) (m n r : ℕ) : Type 0 where
  pub digit : (i : ℕ) → i < w → is_one r i ≡ merge_of_values merge (is_one m i) (is_one n i)

-- a pull of two sides that gave a and b becomes r: the side that has ended goes on with zeros
abbrev pub IsMergedPull : {X : Type 0} → ℕ → (X → ℕ) → Merge → Option X → Option X → Option X → Type 0
IsMergedPull w number merge None None r = r ≡ None
IsMergedPull w number merge (Some a) None r = IsSomeAnd r (λ x. IsMergedBlock w merge (number a) 0 (number x))
IsMergedPull w number merge None (Some b) r = IsSomeAnd r (λ x. IsMergedBlock w merge 0 (number b) (number x))
IsMergedPull w number merge (Some a) (Some b) r =
    IsSomeAnd r (λ x. IsMergedBlock w merge (number a) (number b) (number x))

-- A walk can go over the ones of all that is ahead, the first digit having index 0.
pub record IsWalkable (w : ℕ) (ahead : Ahead) : Type 0 where
  pub long : length ahead.values ≡ ahead.blocks * w
  -- each index of a block past the first can be counted
  pub fits : w * (ahead.blocks - 1) < 2 ^ 64
  pub below : All (λ n. n < 2 ^ 64 - 1) (elements ahead.values)
  pub count_fits : length (elements ahead.values) < 2 ^ 64

-- A walk can go over the ones of a block m and of what is ahead, m having index `index` for its first digit.
pub record CanWalk (w index m : ℕ) (ahead : Ahead) : Type 0 where
  pub long : length ahead.values ≡ ahead.blocks * w
  -- each index of a block past the one in hand can be counted
  pub fits : index + w * ahead.blocks < 2 ^ 64
  pub below : All (λ n. n < 2 ^ 64 - 1) (indexes w index m ahead.values)
  pub count_fits : length (indexes w index m ahead.values) < 2 ^ 64

-- The fields of a walk: the block in hand is a block value, and the walk can go on.
pub record IsWalk (is_block : Type 0) (w index m : ℕ) (ahead : Ahead) : Type 0 where
  pub in_hand : is_block
  pub can : CanWalk w index m ahead

-- the indexes of the ones of blocks of w digits, each of which comes with its index among the blocks
abbrev pub indexes_of : {X : Type 0} → ℕ → (X → ℕ) → List (ℕ × X) → List ℕ
indexes_of w number [] = []
indexes_of w number (entry ∷ entries) = indexes w (entry.0 * w) (number entry.1) [] ++ indexes_of w number entries

-- what a walk has left: of the block in hand at the front, of those that it has still to pull, and of the one at the back
abbrev pub left_between : {X : Type 0} → ℕ → (X → ℕ) → Hand X → List (ℕ × X) → Hand X → List ℕ
left_between w number front entries back =
    indexes w front.index (number front.block) [] ++ (indexes_of w number entries
    ++ indexes w back.index (number back.block) [])

-- what contracts see of a walk that has these two blocks in hand
abbrev pub seen_of : {X : Type 0} → ℕ → (X → ℕ) → Hand X → Nonzeros X → Hand X → Walk
seen_of w number front it back = record {
  left = left_between w number front it.left back;
  pulls = it.pulls;
  index = front.index;
  blocks = back.index / w - front.index / w;
  nonzero_left = length it.left;
  summary_pulls = it.summary_pulls;
  summary_left = it.summary_left;
}

-- The fields of a walk that goes by the blocks that are not 0. Those that it has still to pull lie past the one in hand
-- at the front, none past the one at the back, and the indexes ascend.
pub record IsSparseWalk {X : Type 0} (w : ℕ) (number : X → ℕ) (is_block : X → Type 0) (front : Hand X)
    (it : Nonzeros X) (back : Hand X) : Type 0 where
  pub in_hand : is_block front.block
  pub at_back : is_block back.block
  pub each : All (λ entry. is_block entry.1) it.left
  pub whole : front.index ≡ front.index / w * w
  pub whole_back : back.index ≡ back.index / w * w
  pub past : AscendsFrom (front.index / w + 1) (map (λ entry. entry.0) it.left ++ (back.index / w + 1) ∷ [])
  pub inside : back.index / w ≤ length it.blocks - 1
  pub fits : (length it.blocks - 1) * w < 2 ^ 64
  pub ascends : IsAscending (left_between w number front it.left back)
  pub below : All (λ n. n < 2 ^ 64 - 1) (left_between w number front it.left back)
  pub count_fits : length (left_between w number front it.left back) < 2 ^ 64

-- A walk s passed the first n elements that are left, and pulled the blocks that it went over: t.
pub record Passes (w n : ℕ) (s t : Walk) : Type 0 where
  pub left : t.left ≡ drop n s.left
  pub goes_on : s.pulls ≤ t.pulls
  pub pulled : t.pulls + t.nonzero_left ≡ s.pulls + s.nonzero_left
  pub along : t.index + w * t.blocks ≡ s.index + w * s.blocks
  pub summary : t.summary_pulls + t.summary_left ≡ s.summary_pulls + s.summary_left
