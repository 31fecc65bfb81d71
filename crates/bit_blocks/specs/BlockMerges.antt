-- What the blocks of a list become where they are merged with others, which of them stay, and when two lists merge to zeros:
-- whatever the others are, digit j of block k of them is one of a function. Of the public clauses only those of `packed`
-- cite this.
use Rattle.std.specs.Prelude.{◌≡◌, ℕ, ◌<◌, ◌≤◌, ◌&&◌, Bool, true, false, not, nat_lt, List, map, length, get_or, All, Option, IfNone, IfSome}
use Rattle.bit_blocks.specs.{Digits.is_one, Merges.merge_of_values, Storage.value_at, declared.block.merge.Merge.Merge}

-- The blocks xs can be merged with so many others, which are block values: these are no more.
pub record CanMerge {X : Type 0} (is_block : X → Type 0) (xs : List X) (count : ℕ) (are_blocks : Type 0) : Type 0 where
  pub fewer : count ≤ length xs
  pub each : All is_block xs
  pub others : are_blocks

-- whether digit j of block k is 1
abbrev pub other_at : List ℕ → ℕ → ℕ → Bool
other_at os k j = is_one (get_or os k 0) j

-- whether digit j of block k is 1 in the first list and not in the second
abbrev pub except_at : List ℕ → List ℕ → ℕ → ℕ → Bool
except_at os es k j = is_one (get_or os k 0) j && not (is_one (get_or es k 0) j)

-- the same of the blocks that both lists have
abbrev pub apart_at : List ℕ → List ℕ → ℕ → ℕ → Bool
apart_at os es k j = nat_lt k (length es) && except_at os es k j

-- whether digit j of block k is 1 in both lists
abbrev pub both_at : List ℕ → List ℕ → ℕ → ℕ → Bool
both_at os ps k j = is_one (get_or os k 0) j && is_one (get_or ps k 0) j

-- what digit j of block k becomes by a merge with the other digits
abbrev pub merge_at : {X : Type 0} → Merge → (X → ℕ) → List X → (ℕ → ℕ → Bool) → ℕ → ℕ → Bool
merge_at merge number xs other k j = merge_of_values merge (is_one (get_or (map number xs) k 0) j) (other k j)

-- no block changed
abbrev pub AreKept : List ℕ → List ℕ → Type 0
AreKept ms ns = (k : ℕ) → get_or ns k 0 ≡ get_or ms k 0

-- The blocks xs became ys: digit by digit, those from start to before end are what they merge to with the other digits.
pub record HasMerged {X : Type 0} (merge : Merge) (w : ℕ) (number : X → ℕ) (is_block : X → Type 0) (start end : ℕ)
    (other : ℕ → ℕ → Bool) (xs ys : List X) : Type 0 where
  pub digit : (k j : ℕ) → start ≤ k → k < end → j < w
      → is_one (get_or (map number ys) k 0) j
      ≡ merge_of_values merge (is_one (get_or (map number xs) k 0) j) (other k j)
  pub before : (k : ℕ) → k < start → get_or (map number ys) k 0 ≡ get_or (map number xs) k 0
  pub after : (k : ℕ) → end ≤ k → get_or (map number ys) k 0 ≡ get_or (map number xs) k 0
  pub each : All is_block ys
  pub len : length ys ≡ length xs

-- The blocks xs became ys: digit by digit, those from start to before end are the others.
pub record HaveBecome {X : Type 0} (w : ℕ) (number : X → ℕ) (is_block : X → Type 0) (start end : ℕ) (other : ℕ → ℕ → Bool)
    (xs ys : List X) : Type 0 where
  pub digit : (k j : ℕ) → start ≤ k → k < end → j < w → is_one (get_or (map number ys) k 0) j ≡ other k j
  pub before : (k : ℕ) → k < start → get_or (map number ys) k 0 ≡ get_or (map number xs) k 0
  pub after : (k : ℕ) → end ≤ k → get_or (map number ys) k 0 ≡ get_or (map number xs) k 0
  pub each : All is_block ys
  pub len : length ys ≡ length xs

-- Digit by digit, the blocks from start to before end are the others.
pub record AreOthers {X : Type 0} (w : ℕ) (number : X → ℕ) (start end : ℕ) (other : ℕ → ℕ → Bool) (xs : List X) : Type 0 where
  pub digit : (k j : ℕ) → start ≤ k → k < end → j < w → is_one (get_or (map number xs) k 0) j ≡ other k j

-- A search of the blocks from start to before end gave a place, and the blocks before it are the others and not all from
-- start to before end; or else None, where all are.
pub record FindsDifference {X : Type 0} (w : ℕ) (number : X → ℕ) (start end : ℕ) (other : ℕ → ℕ → Bool) (xs : List X)
    (found : Option ℕ) : Type 0 where
  pub within : IfSome found (λ place. place ≤ end)
  pub same : IfSome found (λ place. AreOthers w number start place other xs)
  pub differs : IfSome found (λ place. AreOthers w number start end other xs → ⊥)
  pub none : IfNone found (AreOthers w number start end other xs)

-- They are what they merge to with the other digits: they stay.
abbrev pub Stay : {X : Type 0} → Merge → ℕ → (X → ℕ) → ℕ → ℕ → (ℕ → ℕ → Bool) → List X → Type 0
Stay merge w number start end other xs = AreOthers w number start end (merge_at merge number xs other) xs

-- digit by digit, the first blocks of two lists merge to 0
pub record MergesToZero (merge : Merge) (w : ℕ) (ms ns : List ℕ) (count : ℕ) : Type 0 where
  pub digit : (k j : ℕ) → k < count → j < w
      → merge_of_values merge (is_one (get_or ms k 0) j) (is_one (get_or ns k 0) j) ≡ false

-- at every index two lists of blocks merge to false
pub record MergesToFalse (merge : Merge) (w : ℕ) (ms ns : List ℕ) : Type 0 where
  pub value : (i : ℕ) → merge_of_values merge (value_at w ms i) (value_at w ns i) ≡ false

-- index i is the first at which they merge to true
pub record IsFirstMerged (merge : Merge) (w : ℕ) (ms ns : List ℕ) (i : ℕ) : Type 0 where
  pub is_true : merge_of_values merge (value_at w ms i) (value_at w ns i) ≡ true
  pub before : (j : ℕ) → j < i → merge_of_values merge (value_at w ms j) (value_at w ns j) ≡ false

-- the values from a on and below b of the blocks ms became what they merge to with true; the others are those of ms
pub record IsMergedSpan (merge : Merge) (w a b : ℕ) (ms ns : List ℕ) : Type 0 where
  pub inside : (i : ℕ) → a ≤ i → i < b → value_at w ns i ≡ merge_of_values merge (value_at w ms i) true
  pub before : (i : ℕ) → i < a → value_at w ns i ≡ value_at w ms i
  pub after : (i : ℕ) → b ≤ i → value_at w ns i ≡ value_at w ms i

-- true and each of the values from a on and below b of the blocks ms merge to false
pub record MergesSpanToFalse (merge : Merge) (w a b : ℕ) (ms : List ℕ) : Type 0 where
  pub value : (i : ℕ) → a ≤ i → i < b → merge_of_values merge true (value_at w ms i) ≡ false
