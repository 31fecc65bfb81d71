-- The walk over the numbers of a range that are not in a set.
use Rattle.std.specs.{Prelude.{◌≡◌, ℕ, ◌+◌, ◌-◌, ◌*◌, ◌/◌, ◌^◌, ◌<◌, ◌≤◌, min, not, Bool, false, List, All, get_or, length, map, ⊤, Option, MatchOption}, Iterator.YieldsFirst, List.range_with_len}
use Rattle.set_algebra.specs.{Members.TakesLeast, Ranges.span, Sets.{difference, elements}}
use Rattle.bit_set.specs.Indexes.{indexes}

-- What contracts see of it: the numbers that are left, the first number of the block in hand, and the end of the range.
pub record MissingWalk : Type 0 where
  pub left : List ℕ
  pub index : ℕ
  pub end : ℕ

-- The block in hand after a call of `next` that gave r, in blocks of w: the one that the number is in, or at the end the last
-- one of the range.
pub record GoesToBlock (w : ℕ) (s : MissingWalk) (r : Option ℕ) (t : MissingWalk) : Type 0 where
  pub at : MatchOption r ((s.index ≤ t.index) × (t.index ≤ t.end) × (t.end ≤ t.index + w)) (λ x. t.index ≡ x / w * w)
  pub end : t.end ≡ s.end

-- the same, shut as `PullsBlocks` is
unfoldable pub StaysInRange : ℕ → MissingWalk → Option ℕ → MissingWalk → Type 0
StaysInRange w s r t = GoesToBlock w s r t

-- A call of `next` on s gave r and left t, over blocks of w: the first of what was left, which is the least,
-- or None at the end, which stays.
pub record PassesMembers (w : ℕ) (s : MissingWalk) (r : Option ℕ) (t : MissingWalk) : Type 0 where
  pub item : YieldsFirst (λ walk. walk.left) s r t
  pub first : MatchOption r ⊤ (λ x. TakesLeast s.left x t.left)
  pub block : StaysInRange w s r t

-- At the making of a walk over the numbers from a on and below b at which a list of truth values is not true, in blocks
-- of w.
pub record StartsMissing (w : ℕ) (values : List Bool) (a b : ℕ) (s : MissingWalk) : Type 0 where
  pub left : s.left ≡ difference (span a b) (elements values)
  -- so that they can be counted
  pub count_fits : length s.left < 2 ^ 64
  pub index : s.index ≡ min a b / w * w
  pub end : s.end ≡ b

-- No public clause cites what follows.

-- whether the list is not true, at each number from a on and below b
abbrev pub missing_values : ℕ → ℕ → List Bool → List Bool
missing_values a b values = map (λ n. not (get_or values n false)) (range_with_len a (b - a))

-- the indexes of the ones of a block m of w digits, the first digit having index `index`, and the numbers past the block
-- and below `end` at which the list is not true
abbrev pub missing_left : ℕ → ℕ → ℕ → ℕ → List Bool → List ℕ
missing_left w index m end values = indexes w index m (missing_values (index + w) end values)

-- The fields of a walk: the block in hand is a block value whose first number is that of a whole block, and all that is left
-- is below the end.
pub record IsMissingWalk (is_block : Type 0) (w index m end : ℕ) (values : List Bool) : Type 0 where
  pub in_hand : is_block
  pub whole : index ≡ index / w * w
  pub inside : index ≤ end
  pub fits : end < 2 ^ 64
  pub below : All (λ n. n < end) (missing_left w index m end values)
