-- Walks over the elements of a set, block by block.
use Rattle.std.specs.Prelude.{◌≡◌, ℕ, ◌+◌, ◌-◌, ◌*◌, ◌/◌, ◌^◌, ◌<◌, ◌≤◌, ◌==◌, max, min, Bool, true, false, nat_lt, if◌then◌else◌, List, [], ◌∷◌, ◌++◌, drop, length, slice_get, ⊤, Option, Some, None}
use Rattle.std.specs.{Prelude.MatchOption, Iterator.{YieldsFirst, YieldsLast, YieldsThen, Drains}}
use Rattle.bit_words.specs.Bounds.{greatest}
use Rattle.bit_blocks.specs.{Bits.blocks_for, declared.block.merge.Merge.Merge}
use Rattle.set_algebra.specs.{Choices.IsSelected, Members.{TakesGreatest, TakesLeast}, Ranges.those_in_range, Sets.{elements, merge_of_sets, those_from}}

-- What contracts see of a walk over a set: the elements that are left, how often its block source gave it a block, or
-- the end, the first number of the block in hand, and how many blocks are past that block, up to the one in hand at
-- the back; how many blocks that are not 0 it has still to pull; how often a block of the summary was pulled, and how
-- many of these are left.
pub record Walk : Type 0 where
  pub left : List ℕ
  pub pulls : ℕ
  pub index : ℕ
  pub blocks : ℕ
  pub nonzero_left : ℕ
  pub summary_pulls : ℕ
  pub summary_left : ℕ

-- The item x was found in the block in hand with no pull, or else by one, in a block past it; where none is left to
-- pull, in the block that was pulled at the back.
pub record FindsBlock (w : ℕ) (s : Walk) (x : ℕ) (t : Walk) : Type 0 where
  pub onward : s.index / w ≤ x / w
  pub index : t.index ≡ x / w * w
  pub pulls : t.pulls ≡ s.pulls + (if s.index / w == x / w then 0 else min 1 s.nonzero_left)

-- How a call of `next` that gave r went from s to t along blocks of w. It pulled each block that it passed once at most,
-- and once more where it found the end. The block in hand is then the one that has the item, or the last.
pub record Pulls (w : ℕ) (s : Walk) (r : Option ℕ) (t : Walk) : Type 0 where
  pub goes_on : s.pulls ≤ t.pulls
  pub pulled : MatchOption r (t.pulls ≤ s.pulls + s.blocks + 1) (λ _. t.pulls + t.blocks ≤ s.pulls + s.blocks)
  pub along : t.index + w * t.blocks ≡ s.index + w * s.blocks
  pub at : MatchOption r (t.blocks ≡ 0) (λ x. (t.index ≤ x) × (x < t.index + w))
  pub sparse : MatchOption r (t.pulls ≡ s.pulls + 1) (λ x. FindsBlock w s x t)
  pub nonzero : MatchOption r ((s.nonzero_left ≡ 0) × (t.nonzero_left ≡ 0))
      (λ _. t.pulls + t.nonzero_left ≡ s.pulls + s.nonzero_left)
  pub summary : MatchOption r ((t.summary_pulls ≡ s.summary_pulls + s.summary_left + 1) × (t.summary_left ≡ 0))
      (λ _. t.summary_pulls + t.summary_left ≡ s.summary_pulls + s.summary_left)

-- the same, not opened where a proof does not ask for it: a loop over a set is about the elements alone
unfoldable pub PullsBlocks : ℕ → Walk → Option ℕ → Walk → Type 0
PullsBlocks w s r t = Pulls w s r t

-- A call of `next` on s gave r and left t, over blocks of w: the first of what was left, which is the least,
-- or None at the end, which stays.
pub record Advances (w : ℕ) (s : Walk) (r : Option ℕ) (t : Walk) : Type 0 where
  pub item : YieldsFirst (λ walk. walk.left) s r t
  pub first : MatchOption r ⊤ (λ x. TakesLeast s.left x t.left)
  pub fits : MatchOption r ⊤ (λ x. x < greatest)
  pub pulls : PullsBlocks w s r t

-- How a call of `next_back` that gave r went from s to t along blocks of w. It pulled the last block that is not 0 once
-- at most, and once more where it found the end. The block in hand at the back is then the one that has the item. It
-- pulled none of the summary's blocks.
pub record PullsBack (w : ℕ) (s : Walk) (r : Option ℕ) (t : Walk) : Type 0 where
  pub pulled : MatchOption r ((t.pulls ≡ s.pulls + 1) × (s.nonzero_left ≡ 0) × (t.nonzero_left ≡ 0))
      (λ _. t.pulls + t.nonzero_left ≡ s.pulls + s.nonzero_left)
  pub goes_on : s.pulls ≤ t.pulls
  pub index : t.index ≡ s.index
  pub fewer : t.blocks ≤ s.blocks
  pub at : MatchOption r (t.blocks ≡ 0) (λ x. t.index / w + t.blocks ≡ x / w)
  pub summary : t.summary_pulls ≡ s.summary_pulls
  pub summary_left : t.summary_left ≤ s.summary_left

-- the same, shut like `PullsBlocks`
unfoldable pub PullsBlocksBack : ℕ → Walk → Option ℕ → Walk → Type 0
PullsBlocksBack w s r t = PullsBack w s r t

-- A call of `next_back` on s gave r and left t, over blocks of w: the last of what was left, which is the greatest, or
-- None at the end, which stays.
pub record AdvancesBack (w : ℕ) (s : Walk) (r : Option ℕ) (t : Walk) : Type 0 where
  pub item : YieldsLast (λ walk. walk.left) s r t
  pub last : MatchOption r ⊤ (λ x. TakesGreatest s.left x t.left)
  pub fits : MatchOption r ⊤ (λ x. x < greatest)
  pub pulls : PullsBlocksBack w s r t

-- How calls of `next`, the last of which gave r, went from s to t along blocks of w: as one call of it where nothing was left,
-- and else with no more pulls than there are blocks that are not 0. The block in hand is then the one that has the item, or
-- the last.
pub record PullsAlong (w : ℕ) (s : Walk) (r : Option ℕ) (t : Walk) : Type 0 where
  pub goes_on : s.pulls ≤ t.pulls
  pub pulled : MatchOption r ((t.pulls ≡ s.pulls + s.nonzero_left + 1) × (t.nonzero_left ≡ 0))
      (λ _. t.pulls + t.nonzero_left ≡ s.pulls + s.nonzero_left)
  pub along : t.index + w * t.blocks ≡ s.index + w * s.blocks
  pub at : MatchOption r (t.blocks ≡ 0) (λ x. (t.index ≤ x) × (x < t.index + w))
  pub summary : MatchOption r ((t.summary_pulls ≡ s.summary_pulls + s.summary_left + 1) × (t.summary_left ≡ 0))
      (λ _. t.summary_pulls + t.summary_left ≡ s.summary_pulls + s.summary_left)

-- the same, shut like `PullsBlocks`
unfoldable pub PullsBlocksAlong : ℕ → Walk → Option ℕ → Walk → Type 0
PullsBlocksAlong w s r t = PullsAlong w s r t

-- A call of `nth` on s gave r and left t, over blocks of w: the first n of what was left were passed, and r is the one
-- after them, which has just these below it, or None where there is none.
pub record Skips (w n : ℕ) (s : Walk) (r : Option ℕ) (t : Walk) : Type 0 where
  pub item : r ≡ slice_get s.left n
  pub member : MatchOption r (length s.left ≤ n) (IsSelected s.left n)
  pub left : t.left ≡ drop (n + 1) s.left
  pub pulls : PullsBlocksAlong w s r t

-- a call at one of the ends: at the front, or else at the back
abbrev pub CallsEnd : ℕ → Bool → Walk → Option ℕ → Walk → Type 0
CallsEnd w true s r t = Advances w s r t
CallsEnd w false s r t = AdvancesBack w s r t

-- From s, such calls gave these items, each with whether it came from the front, and left t.
abbrev pub GivesFromEnds : ℕ → Walk → List (Bool × ℕ) → Walk → Type 0
GivesFromEnds w s [] t = s ≡ t
GivesFromEnds w s (call ∷ calls) t = (u : Walk) × CallsEnd w call.0 s (Some call.1) u × GivesFromEnds w u calls t

-- these items in ascending order: those from the front as they came, and those from the back before the later ones
abbrev pub in_order : List (Bool × ℕ) → List ℕ
in_order [] = []
in_order (call ∷ calls) = if call.0 then call.1 ∷ in_order calls else in_order calls ++ call.1 ∷ []

-- the blocks of w past block k that have one of the numbers, which ascend: each once, in order
abbrev pub blocks_past : ℕ → ℕ → List ℕ → List ℕ
blocks_past w k [] = []
blocks_past w k (x ∷ xs) = if nat_lt k (x / w) then x / w ∷ blocks_past w (x / w) xs else blocks_past w k xs

-- What contracts see of a walk over two sets: the elements that are left, how often it pulled both, the first
-- number of the block in hand, and how many blocks are past that block in the set that has more.
pub record TwoSetWalk : Type 0 where
  pub left : List ℕ
  pub pulls : ℕ
  pub index : ℕ
  pub blocks : ℕ

-- How a call of `next` on such a walk that gave r went from s to t along blocks of w: it pulled each block that it passed
-- just once, and once more where it found the end.
pub record PullsEach (w : ℕ) (s : TwoSetWalk) (r : Option ℕ) (t : TwoSetWalk) : Type 0 where
  pub goes_on : s.pulls ≤ t.pulls
  pub pulled : MatchOption r (t.pulls ≡ s.pulls + s.blocks + 1) (λ _. t.pulls + t.blocks ≡ s.pulls + s.blocks)
  pub along : t.index + w * t.blocks ≡ s.index + w * s.blocks
  pub at : MatchOption r (t.blocks ≡ 0) (λ x. (t.index ≤ x) × (x < t.index + w))

-- the same, shut like `PullsBlocks`
unfoldable pub PullsEachBlock : ℕ → TwoSetWalk → Option ℕ → TwoSetWalk → Type 0
PullsEachBlock w s r t = PullsEach w s r t

-- A call of `next` on such a walk: the first of what was left, which is the least, or None at the end, which stays.
pub record AdvancesByEach (w : ℕ) (s : TwoSetWalk) (r : Option ℕ) (t : TwoSetWalk) : Type 0 where
  pub item : YieldsFirst (λ walk. walk.left) s r t
  pub first : MatchOption r ⊤ (λ x. TakesLeast s.left x t.left)
  pub fits : MatchOption r ⊤ (λ x. x < greatest)
  pub pulls : PullsEachBlock w s r t

-- A walk went on to the next block or stayed, and what is left stayed.
pub record GoesOn (w : ℕ) (s t : TwoSetWalk) : Type 0 where
  pub left : t.left ≡ s.left
  pub goes_on : s.pulls ≤ t.pulls
  pub pulled : t.pulls + t.blocks ≡ s.pulls + s.blocks
  pub along : t.index + w * t.blocks ≡ s.index + w * s.blocks

-- What contracts see of a walk that keeps a bound on the elements left.
pub record BoundedWalk : Type 0 where
  pub walk : TwoSetWalk
  pub bound : ℕ

-- A call of `next` on such a walk, which lowers its bound by one until it is 0, at the end too.
pub record AdvancesWithBound (w : ℕ) (s : BoundedWalk) (r : Option ℕ) (t : BoundedWalk) : Type 0 where
  pub walk : AdvancesByEach w s.walk r t.walk
  pub bound : t.bound ≡ s.bound - 1

-- From s, the calls of `next` up to the first None gave the items and left t.
pub record IsWalkedOut (s : Walk) (items : List ℕ) (t : Walk) : Type 0 where
  pub all : items ≡ s.left
  pub ended : t.left ≡ []
  pub pulled : t.pulls ≤ s.pulls + s.blocks + 1

-- From s, the calls of `next` on a walk over two sets up to the first None gave the items and left t. They pulled each
-- block that they passed just once.
pub record IsWalkedOutByEach (s : TwoSetWalk) (items : List ℕ) (t : TwoSetWalk) : Type 0 where
  pub all : items ≡ s.left
  pub ended : t.left ≡ []
  pub pulled : t.pulls ≡ s.pulls + s.blocks + 1

-- Where a walk over a list of truth values is at its making, in blocks of w. It has pulled one block, or found that there
-- is none.
pub record FirstPull (w : ℕ) (values : List Bool) (s : Walk) : Type 0 where
  pub pulls : s.pulls ≡ 1
  pub index : s.index ≡ 0
  pub blocks : s.blocks ≡ blocks_for w (length values) - 1
  pub nonzero : s.nonzero_left ≡ length (blocks_past w 0 (elements values))
  pub summary : s.summary_pulls + s.summary_left ≡ max 1 (blocks_for w (blocks_for w (length values)))

-- Where one is that begins at a number: the block of `from` is in hand, or the last one where the list ends before it.
pub record FirstPullFrom (w : ℕ) (values : List Bool) (from : ℕ) (s : Walk) : Type 0 where
  pub pulls : s.pulls ≡ 1
  pub index : s.index ≡ min (from / w) (blocks_for w (length values) - 1) * w
  pub blocks : s.blocks ≡ blocks_for w (length values) - 1 - from / w
  pub nonzero : s.nonzero_left ≡ length (blocks_past w (s.index / w) (those_from (elements values) from))
  pub summary : s.summary_pulls + s.summary_left ≡ max 1
      (blocks_for w (blocks_for w (length values)) - min (from / w) (blocks_for w (length values) - 1) / w)

-- Where one is that begins at a and ends before b: the block of a is in hand, or the last one, and at the back the one in
-- which the range ends, or the last one. That is a second pull where an element of the range is in it, past the first.
-- Of the summary it pulls what says of the blocks from the one in hand up to the one at the back.
pub record FirstPullsOfPart (w : ℕ) (values : List Bool) (a b : ℕ) (s : Walk) : Type 0 where
  pub pulls : s.pulls + s.nonzero_left
      ≡ 1 + length (blocks_past w (s.index / w) (those_in_range (elements values) a b))
  pub at_most : s.pulls ≤ 2
  pub index : s.index ≡ min (a / w) (blocks_for w (length values) - 1) * w
  pub blocks : s.blocks ≡ min ((b - 1) / w) (blocks_for w (length values) - 1) - a / w
  pub summary : s.summary_pulls + s.summary_left
      ≤ max 1 (blocks_for w (s.index / w + s.blocks) - s.index / w / w)

-- Where a walk over what two lists become is at its making. It has pulled both once, and has as many blocks to go as the
-- longer one.
pub record FirstPullOfTwo (w : ℕ) (a b : List Bool) (s : TwoSetWalk) : Type 0 where
  pub pulls : s.pulls ≡ 1
  pub index : s.index ≡ 0
  pub blocks : s.blocks ≡ max (blocks_for w (length a)) (blocks_for w (length b)) - 1

-- these four, shut like `PullsBlocks`
unfoldable pub IsAtFirstBlock : ℕ → List Bool → Walk → Type 0
IsAtFirstBlock w values s = FirstPull w values s

unfoldable pub IsAtBlockOf : ℕ → List Bool → ℕ → Walk → Type 0
IsAtBlockOf w values from s = FirstPullFrom w values from s

unfoldable pub IsAtBlocksOf : ℕ → List Bool → ℕ → ℕ → Walk → Type 0
IsAtBlocksOf w values a b s = FirstPullsOfPart w values a b s

unfoldable pub IsAtFirstBlocks : ℕ → List Bool → List Bool → TwoSetWalk → Type 0
IsAtFirstBlocks w a b s = FirstPullOfTwo w a b s

-- At the making of a walk over the elements of a list of truth values, in blocks of w.
pub record IsAtStart (w : ℕ) (values : List Bool) (s : Walk) : Type 0 where
  pub left : s.left ≡ elements values
  -- so that the elements can be counted
  pub count_fits : length s.left < 2 ^ 64
  pub at : IsAtFirstBlock w values s

-- At the making of a walk over those elements that are `from` or above.
pub record IsAtStartFrom (w : ℕ) (values : List Bool) (from : ℕ) (s : Walk) : Type 0 where
  pub left : s.left ≡ those_from (elements values) from
  pub count_fits : length s.left < 2 ^ 64
  pub at : IsAtBlockOf w values from s

-- At the making of a walk over those elements that are a or above and below b.
pub record IsAtStartOfPart (w : ℕ) (values : List Bool) (a b : ℕ) (s : Walk) : Type 0 where
  pub left : s.left ≡ those_in_range (elements values) a b
  pub count_fits : length s.left < 2 ^ 64
  pub at : IsAtBlocksOf w values a b s

-- At the making of a walk over what two lists of truth values become, in blocks of w.
pub record StartsOverTwo (w : ℕ) (a b : List Bool) (s : TwoSetWalk) : Type 0 where
  -- so that the elements can be counted
  pub count_fits : length s.left < 2 ^ 64
  pub at : IsAtFirstBlocks w a b s

-- What whole walks over two sets give, in blocks of w. S is what contracts see of such a walk, and `walk` what that
-- says of the walk itself.
pub record WalksOverTwo {S : Type 0} (w : ℕ) (merge : Merge) (walk : S → TwoSetWalk)
    (next : S → Option ℕ → S → Type 0) : Type 0 where
  -- from any point, up to the first None
  pub rest : (s t : S) (items : List ℕ) → YieldsThen next s items None t → IsWalkedOutByEach (walk s) items (walk t)
  -- from the making on
  pub whole : (a b : List Bool) (s t : S) (items : List ℕ)
      → (walk s).left ≡ merge_of_sets merge (elements a) (elements b) → StartsOverTwo w a b (walk s)
      → YieldsThen next s items None t
      → (items ≡ merge_of_sets merge (elements a) (elements b))
      × ((walk t).pulls ≡ max 1 (max (blocks_for w (length a)) (blocks_for w (length b))) + 1)
  -- after an item x the block in hand is the one that has it
  pub in_hand : (a b : List Bool) (s t : S) (items : List ℕ) (x : ℕ) → StartsOverTwo w a b (walk s)
      → YieldsThen next s items (Some x) t → (walk t).blocks
      ≡ max (blocks_for w (length a)) (blocks_for w (length b)) - 1 - x / w
  pub for_good : (s t : S) (r : Option ℕ) → (walk s).left ≡ [] → next s r t → (r ≡ None) × ((walk t).left ≡ [])
  -- however `next` is called, it is these calls
  pub count : (s : S) (items : List ℕ) → Drains next s items → length items ≡ length (walk s).left

-- the digits of the block in hand and of the blocks past it, where that fits a `usize`
abbrev pub bound_on_rest : ℕ → ℕ → Option ℕ
bound_on_rest w blocks = if nat_lt ((1 + blocks) * w) (2 ^ 64) then Some ((1 + blocks) * w) else None
