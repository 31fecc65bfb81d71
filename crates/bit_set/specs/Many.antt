-- What is in some, and what is in each, of many sets.
use Rattle.std.specs.{Prelude.{◌≡◌, ℕ, Bool, false, max, min, List, [], ◌∷◌, get_or, length}, List.{fold, list_all, list_any}}
use Rattle.bit_blocks.specs.{Bits.Bits, Merges.merge_of_values, declared.block.merge.Merge.Merge}
use Rattle.set_algebra.specs.Sets.{elements, has}
pub use Rattle.set_algebra.specs.Sets.{intersection_all, union_all}

-- r has what is in some of the sets
abbrev pub HasSome : List Bits → List ℕ → Type 0
HasSome sets r = (n : ℕ) → has r n ≡ list_any (λ set. has (elements set.values) n) sets

-- r has what is in each of the sets, and nothing where there are none
abbrev pub HasEach : List Bits → List ℕ → Type 0
HasEach [] r = (n : ℕ) → has r n ≡ false
HasEach (s ∷ ss) r = (n : ℕ) → has r n ≡ list_all (λ set. has (elements set.values) n) (s ∷ ss)

-- the greatest length of the lists, and 0 where there are none
abbrev pub longest : List Bits → ℕ
longest sets = fold (λ most set. max most (length set.values)) 0 sets

-- the least length of the lists, and 0 where there are none
abbrev pub shortest : List Bits → ℕ
shortest [] = 0
shortest (s ∷ ss) = fold (λ least set. min least (length set.values)) (length s.values) ss

-- what a value becomes by merges with value i of each of the lists in turn
abbrev pub merged_at : Merge → List Bits → ℕ → Bool → Bool
merged_at merge sets i value = fold (λ b set. merge_of_values merge b (get_or set.values i false)) value sets
