-- How a walk over the blocks that are not 0 finds them by the summary. No public clause cites this.
use Rattle.std.specs.Prelude.{◌≡◌, ℕ, zero, suc, ◌+◌, ◌-◌, ◌*◌, ◌^◌, ◌<◌, ◌≤◌, ◌==◌, Bool, true, if◌then◌else◌, List, [], ◌∷◌, ◌++◌, map, drop, take, length, All, Option, None, Some}
use Rattle.std.specs.Prelude.{MatchOption, IfSome, false, slice_get}
use Rattle.bit_blocks.specs.{Bits.blocks_for, Digits.is_one, Storage.{value_at, is_used}}
use Rattle.bit_words.specs.{Nonzero.nonzero_from, Summary.short_count}

-- the first of n truth values that is true, or n
abbrev pub first_true : (ℕ → Bool) → ℕ → ℕ
first_true f zero = 0
first_true f (suc n) = if f 0 then 0 else suc (first_true (λ k. f (suc k)) n)

-- The block from which a walk goes on, where digit j of m is about block index + j: that of the lowest 1 among w digits,
-- or the first past these.
abbrev pub next_at : ℕ → ℕ → ℕ → ℕ
next_at w index m = index + first_true (is_one m) w

-- the blocks of xs from block p on and before block `end` that are not 0, each with its index
abbrev pub left_from : {X : Type 0} → (X → ℕ) → ℕ → ℕ → List X → List (ℕ × X)
left_from number p end xs = nonzero_from number p (drop p (take end xs))

-- The block `pending` represents w blocks of xs from `index` on and before block `end`: from its lowest 1 on it has the
-- digit of each that is not 0, and perhaps of others.
pub record IsInHand {X : Type 0} (w : ℕ) (number : X → ℕ) (is_block : X → Type 0) (index end : ℕ) (pending : X)
    (xs : List X) : Type 0 where
  pub each : All is_block xs
  pub of_block : is_block pending
  pub fits : length xs < 2 ^ 64
  pub ends : end ≤ length xs
  pub within : index ≤ end
  pub inside : (j : ℕ) → j < w → is_one (number pending) j ≡ true → index + j < end
  pub covers : (i j : ℕ) → i < j → j < w → is_one (number pending) i ≡ true → index + j < end
      → is_used (map number xs) (index + j) ≡ true → is_one (number pending) j ≡ true

-- The blocks `summary` are what is stored of the summary for the blocks of xs from `start` on and before block `end`.
-- The last of them may say of others too.
pub record IsStoredFrom {X : Type 0} (w : ℕ) (number : X → ℕ) (is_block : X → Type 0) (start end : ℕ)
    (xs summary : List X) : Type 0 where
  pub each : All is_block summary
  pub short : length xs ≤ short_count w → summary ≡ []
  pub enough : short_count w < length xs → end ≤ start + length summary * w
  pub no_more : 0 < length summary → start + length summary * w < end + w
  pub digit : short_count w < length xs → (k : ℕ) → start + k < end
      → value_at w (map number summary) k ≡ is_used (map number xs) (start + k)

-- One block of the summary is in hand, and `summary` is what is stored past it.
pub record IsPending {X : Type 0} (w : ℕ) (number : X → ℕ) (is_block : X → Type 0) (index end : ℕ) (pending : X)
    (xs summary : List X) : Type 0 where
  pub hand : IsInHand w number is_block index end pending xs
  pub stored : IsStoredFrom w number is_block (index + w) end xs summary

-- The block in hand is used up, and the stored block `used` says which of the w blocks past those that it is about are
-- not 0: all of these come before block `end`.
pub record IsNextChunk {X : Type 0} (w : ℕ) (number : X → ℕ) (index end : ℕ) (pending : X) (summary : List X) (used : X)
    : Type 0 where
  pub used_up : number pending ≡ 0
  pub whole : index + w + w ≤ end
  pub first : slice_get summary 0 ≡ Some used

-- The digits of m represent the w blocks of xs from `start` on and before block `end`: each block that is not 0 has its
-- digit, and perhaps others have.
pub record CoversUsed {X : Type 0} (w : ℕ) (number : X → ℕ) (xs : List X) (start end m : ℕ) : Type 0 where
  pub inside : (j : ℕ) → j < w → is_one m j ≡ true → start + j < end
  pub covers : (j : ℕ) → j < w → start + j < end → is_used (map number xs) (start + j) ≡ true → is_one m j ≡ true

-- Of w digits of m, about blocks of xs from `index` on and before block `end`, the lowest was taken, after blocks of a
-- summary that have none: it is that of block k, and those of r from `next` on are left. Or there was none. `pulls` and
-- `new_pulls` count the pulls of blocks of the summary.
pub record Finds {X : Type 0} (w : ℕ) (number : X → ℕ) (xs : List X) (end index m pulls : ℕ) (found : Option ℕ)
    (next r new_pulls : ℕ) : Type 0 where
  pub inside : IfSome found (λ k. k < end)
  pub item : IfSome found (λ k. (x : X) → slice_get xs k ≡ Some x → left_from number (next_at w index m) end xs
      ≡ (if number x == 0 then left_from number (next_at w next r) end xs
      else (k, x) ∷ left_from number (next_at w next r) end xs))
  pub onward : IfSome found (λ k. (next_at w index m ≤ k) × (k < next_at w next r))
  pub goes_on : pulls ≤ new_pulls
  pub summary : new_pulls + blocks_for w (end - (next + w)) ≡ pulls + blocks_for w (end - (index + w))
  pub ended : found ≡ None → (left_from number (next_at w index m) end xs ≡ [])
      × (left_from number (next_at w next r) end xs ≡ []) × (end ≤ next + w)

-- Block k is the last of xs from block p on and before block `end` that may be not 0.
pub record IsLastPending {X : Type 0} (number : X → ℕ) (xs : List X) (p end k : ℕ) : Type 0 where
  pub reached : p ≤ k
  pub before : k < end
  pub between : (j : ℕ) → k < j → j < end → is_used (map number xs) j ≡ false

-- A search for that block gave it, or None where all are 0.
abbrev pub FindsLastPending : {X : Type 0} → (X → ℕ) → List X → ℕ → ℕ → Option ℕ → Type 0
FindsLastPending number xs p end found = MatchOption found
    ((j : ℕ) → p ≤ j → j < end → is_used (map number xs) j ≡ false) (IsLastPending number xs p end)

-- Of w digits of m, about blocks of xs from `index` on, and of what a summary has past these, the last before block
-- `end` was taken: it is that of block k, and those of r before block `new_end` are left. Or there was none.
pub record FindsLast {X : Type 0} (w : ℕ) (number : X → ℕ) (xs : List X) (index m end : ℕ) (found : Option ℕ)
    (r new_end : ℕ) : Type 0 where
  pub inside : IfSome found (λ k. (k < end) × (new_end ≡ k))
  pub item : IfSome found (λ k. (x : X) → slice_get xs k ≡ Some x → left_from number (next_at w index m) end xs
      ≡ (if number x == 0 then left_from number (next_at w index r) new_end xs
      else left_from number (next_at w index r) new_end xs ++ (k, x) ∷ []))
  pub fewer : new_end ≤ end
  pub ended : found ≡ None → (left_from number (next_at w index m) end xs ≡ [])
      × (left_from number (next_at w index r) new_end xs ≡ []) × (new_end ≤ index)
