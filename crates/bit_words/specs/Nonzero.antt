-- A walk over the blocks that are not 0, each with its index.
use Rattle.std.specs.Prelude.{◌≡◌, ℕ, ◌+◌, ◌-◌, ◌*◌, ◌/◌, ◌==◌, ◌<◌, ◌⊎◌, ◌++◌, ◌&&◌, nat_lt, All, Bool, true, false, None, Some, ◌≤◌, if◌then◌else◌, min, List, [], ◌∷◌, Option, MatchOption}
use Rattle.std.specs.{Prelude.{⊤, drop, length, take}, Int.RustNames.count_ones}
use Rattle.std.specs.{Iterator.{YieldsFirst, YieldsLast}, List.sum_by}
use Rattle.bit_blocks.specs.{Bits.blocks_for, Digits.is_one}

-- What contracts see of such a walk: all blocks that it goes over; those that are left, each with its
-- index; how often it was pulled; how often it pulled a block of the summary, and how many of these it
-- has not pulled yet.
pub record Nonzeros (X : Type 0) : Type 0 where
  pub blocks : List X
  pub left : List (ℕ × X)
  pub pulls : ℕ
  pub summary_pulls : ℕ
  pub summary_left : ℕ

-- A pull that gave r: the first of what was left, or the end found. Each block of the summary is pulled once at most,
-- and once more where the end was found.
pub record PullsNonzero {X : Type 0} (s : Nonzeros X) (r : Option (ℕ × X)) (t : Nonzeros X) : Type 0 where
  pub item : YieldsFirst (λ walk. walk.left) s r t
  pub same : t.blocks ≡ s.blocks
  pub counted : t.pulls ≡ s.pulls + 1
  pub goes_on : s.summary_pulls ≤ t.summary_pulls
  pub summary : MatchOption r ((t.summary_pulls ≡ s.summary_pulls + s.summary_left + 1) × (t.summary_left ≡ 0))
      (λ _. t.summary_pulls + t.summary_left ≡ s.summary_pulls + s.summary_left)

-- The same, where an end that was found counts no pull.
pub record TakesFirst {X : Type 0} (s : Nonzeros X) (r : Option (ℕ × X)) (t : Nonzeros X) : Type 0 where
  pub item : YieldsFirst (λ walk. walk.left) s r t
  pub same : t.blocks ≡ s.blocks
  pub counted : MatchOption r (t.pulls ≡ s.pulls) (λ _. t.pulls ≡ s.pulls + 1)
  pub goes_on : s.summary_pulls ≤ t.summary_pulls
  pub summary : t.summary_pulls + t.summary_left ≡ s.summary_pulls + s.summary_left
  pub ended : MatchOption r (t.summary_left ≡ 0) (λ _. ⊤)

-- A pull at the back that gave r: the last of what was left, or the end found. It pulls no block of the summary, and
-- those past it are not pulled any more.
pub record PullsLast {X : Type 0} (s : Nonzeros X) (r : Option (ℕ × X)) (t : Nonzeros X) : Type 0 where
  pub item : YieldsLast (λ walk. walk.left) s r t
  pub same : t.blocks ≡ s.blocks
  pub counted : t.pulls ≡ s.pulls + 1
  pub summary : t.summary_pulls ≡ s.summary_pulls
  pub summary_left : t.summary_left ≤ s.summary_left

-- The same, where an end that was found counts no pull.
pub record TakesLast {X : Type 0} (s : Nonzeros X) (r : Option (ℕ × X)) (t : Nonzeros X) : Type 0 where
  pub item : YieldsLast (λ walk. walk.left) s r t
  pub same : t.blocks ≡ s.blocks
  pub counted : MatchOption r (t.pulls ≡ s.pulls) (λ _. t.pulls ≡ s.pulls + 1)
  pub summary : t.summary_pulls ≡ s.summary_pulls
  pub summary_left : t.summary_left ≤ s.summary_left

-- A walk s ended in the block at k: t has what is left before it, and `block` the lowest `count` of w digits of that block,
-- where it was left. This is a pull where one of them is 1.
pub record CutsAt {X : Type 0} (w : ℕ) (number : X → ℕ) (k count : ℕ) (s : Nonzeros X) (block : X) (t : Nonzeros X) : Type 0 where
  pub at : List (ℕ × X)
  pub past : List (ℕ × X)
  pub split : s.left ≡ t.left ++ (at ++ past)
  pub before : All (λ entry. entry.0 < k) t.left
  pub after : All (λ entry. k < entry.0) past
  pub whole : ℕ
  pub entry : ((at ≡ []) × (whole ≡ 0)) ⊎ ((x : X) × (at ≡ (k, x) ∷ []) × (number x ≡ whole))
  pub digit : (j : ℕ) → j < w → is_one (number block) j ≡ (nat_lt j count && is_one whole j)
  pub same : t.blocks ≡ s.blocks
  pub counted : t.pulls ≡ s.pulls + min 1 (number block)
  pub summary : t.summary_pulls ≡ s.summary_pulls
  pub summary_left : t.summary_left ≤ s.summary_left

-- the blocks that are not 0, each with its index, where the first has index k
abbrev pub nonzero_from : {X : Type 0} → (X → ℕ) → ℕ → List X → List (ℕ × X)
nonzero_from number k [] = []
nonzero_from number k (x ∷ xs) =
    if number x == 0 then nonzero_from number (k + 1) xs else (k, x) ∷ nonzero_from number (k + 1) xs

-- those past the first block, and the first in any case
abbrev pub first_and_nonzero : {X : Type 0} → (X → ℕ) → List X → List (ℕ × X)
first_and_nonzero number [] = []
first_and_nonzero number (x ∷ xs) = (0, x) ∷ nonzero_from number 1 xs

-- A walk made past block k of xs, which is one pull. It pulled the block of the summary that says of block k.
abbrev pub walk_past : {X : Type 0} → ℕ → (X → ℕ) → ℕ → List X → Nonzeros X
walk_past w number k xs = record {
  blocks = xs;
  left = nonzero_from number (k + 1) (drop (k + 1) xs);
  pulls = 1;
  summary_pulls = 1;
  summary_left = blocks_for w (length xs) - 1 - k / w;
}

-- a walk that is made so
abbrev pub StartsPast : {X : Type 0} → ℕ → (X → ℕ) → ℕ → Nonzeros X → Type 0
StartsPast w number k it = it ≡ walk_past w number k it.blocks

-- the walk past the first block as it was before that was pulled
abbrev pub before_first : {X : Type 0} → ℕ → (X → ℕ) → Nonzeros X → Nonzeros X
before_first w number it = record {
  blocks = it.blocks;
  left = first_and_nonzero number it.blocks;
  pulls = 0;
  summary_pulls = min 1 (blocks_for w (length it.blocks));
  summary_left = blocks_for w (length it.blocks) - 1;
}

-- how many binary digits are 1 of blocks that are left, each of which comes with its index
abbrev pub ones_left : {X : Type 0} → (X → ℕ) → List (ℕ × X) → ℕ
ones_left number left = sum_by (λ entry. count_ones (number entry.1)) left

-- A walk s passed over the first `count` of the blocks that were left, which have so many ones, and left t. Each is a pull.
pub record SkipsBlocks {X : Type 0} (number : X → ℕ) (s : Nonzeros X) (ones : ℕ) (t : Nonzeros X) : Type 0 where
  pub count : ℕ
  pub within : count ≤ length s.left
  pub left : t.left ≡ drop count s.left
  pub passed : ones ≡ ones_left number (take count s.left)
  pub same : t.blocks ≡ s.blocks
  pub counted : t.pulls ≡ s.pulls + count
  pub goes_on : s.summary_pulls ≤ t.summary_pulls
  pub summary : t.summary_pulls + t.summary_left ≡ s.summary_pulls + s.summary_left

-- a block that a walk has in hand, and the index of its first digit
pub record Hand (X : Type 0) : Type 0 where
  pub block : X
  pub index : ℕ

-- A call of `refill` or `refill_back` on s for a hand whose block was not 0, which left t: nothing changed.
pub record Stays {X : Type 0} (number : X → ℕ) (s : Nonzeros X) (hand other : Hand X) (found : Bool) (t : Nonzeros X)
    (new new_other : Hand X) : Type 0 where
  pub some : 0 < number hand.block
  pub is_found : found ≡ true
  pub walk : t ≡ s
  pub hand_stays : new ≡ hand
  pub other_stays : new_other ≡ other

-- For a hand whose block was 0 it is a pull.
pub record Fills {X : Type 0} (takes : Nonzeros X → Option (ℕ × X) → Nonzeros X → Type 0) (w : ℕ) (number : X → ℕ)
    (s : Nonzeros X) (hand other : Hand X) (found : Bool) (t : Nonzeros X) (new new_other : Hand X) : Type 0 where
  pub used_up : number hand.block ≡ 0
  pub is_found : found ≡ true
  pub k : ℕ
  pub pulled : takes s (Some (k, new.block)) t
  pub some : 0 < number new.block
  pub index : new.index ≡ k * w
  pub other_stays : new_other ≡ other

-- Where none is left the block in the other hand goes over to this one. No pull is counted.
pub record TakesOver {X : Type 0} (takes : Nonzeros X → Option (ℕ × X) → Nonzeros X → Type 0) (number : X → ℕ)
    (s : Nonzeros X) (hand other : Hand X) (found : Bool) (t : Nonzeros X) (new new_other : Hand X) : Type 0 where
  pub used_up : number hand.block ≡ 0
  pub is_found : found ≡ true
  pub none_left : takes s None t
  pub some : 0 < number other.block
  pub taken : new ≡ other
  pub other_index : new_other.index ≡ other.index
  pub other_used_up : number new_other.block ≡ 0

-- Where that is 0 too the end was found, which is a pull.
pub record RunsOut {X : Type 0} (pulls : Nonzeros X → Option (ℕ × X) → Nonzeros X → Type 0) (number : X → ℕ)
    (s : Nonzeros X) (hand other : Hand X) (found : Bool) (t : Nonzeros X) (new new_other : Hand X) : Type 0 where
  pub used_up : number hand.block ≡ 0
  pub not_found : found ≡ false
  pub end : pulls s None t
  pub other_used_up : number other.block ≡ 0
  pub hand_stays : new ≡ hand
  pub other_stays : new_other ≡ other

-- one of these four
abbrev pub Refills : {X : Type 0} → (Nonzeros X → Option (ℕ × X) → Nonzeros X → Type 0)
    → (Nonzeros X → Option (ℕ × X) → Nonzeros X → Type 0) → ℕ → (X → ℕ) → Nonzeros X → Hand X → Hand X → Bool
    → Nonzeros X → Hand X → Hand X → Type 0
Refills takes pulls w number s hand other found t new new_other =
    Stays number s hand other found t new new_other ⊎ (Fills takes w number s hand other found t new new_other
    ⊎ (TakesOver takes number s hand other found t new new_other
    ⊎ RunsOut pulls number s hand other found t new new_other))
