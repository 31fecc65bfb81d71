-- The JSON form of a bit set, over what `serde_json` says that a value is.
use Rattle.std.specs.{Prelude.{◌≡◌, ◌≢◌, ℕ, ◌+◌, ◌-◌, ◌*◌, ◌^◌, ◌<◌, ◌≤◌, List, [], ◌∷◌, length, get_or, All, codes, Option, Some, IsSome, option_map, option_and_then}, Int.bit_at}
use Rattle.serde_json.specs.{Data.{Data, Items, no_items, item}, Events.members_len, Find.{get, as_object, as_array, as_number, as_u64}}
use Rattle.bit_blocks.specs.Bits.{blocks_for}
use Rattle.bit_set.specs.declared.json.JsonError.{JsonError, TheVariants.{Shape, Number, Blocks, Unclean, Memory}}

-- how many members an object has
abbrev pub members_in : Data → Option ℕ
members_in d = option_map members_len (as_object d)

-- the number of a value, where it is one that `as_u64` gives
abbrev pub number_in : Data → Option ℕ
number_in d = option_and_then as_u64 (as_number d)

-- the numbers of an array, where each of its values has one
abbrev pub numbers_in : Items → Option (List ℕ)
numbers_in no_items = Some []
numbers_in (item d ds) = option_and_then (λ m. option_map (λ ms. m ∷ ms) (numbers_in ds)) (number_in d)

-- what an object has at `bit_vec`, and what that has at `storage`, where it is an array, and at `nbits`
abbrev pub bit_vec_in : Data → Option Data
bit_vec_in d = get (codes "bit_vec") d

abbrev pub storage_in : Data → Option Items
storage_in d = option_and_then as_array (option_and_then (get (codes "storage")) (bit_vec_in d))

abbrev pub nbits_in : Data → Option Data
nbits_in d = option_and_then (get (codes "nbits")) (bit_vec_in d)

-- The shape: an object with just the member `bit_vec`, whose value is one with just the members `storage`, an array,
-- and `nbits`.
pub record HasShape (d : Data) : Type 0 where
  pub one : members_in d ≡ Some 1
  pub two : option_and_then members_in (bit_vec_in d) ≡ Some 2
  pub storage : IsSome (storage_in d)
  pub nbits : IsSome (nbits_in d)

-- The numbers of `storage` are ms, each that of a block of w digits, and the number of `nbits` is n.
pub record HasNumbers (w : ℕ) (d : Data) (ms : List ℕ) (n : ℕ) : Type 0 where
  pub blocks : option_and_then numbers_in (storage_in d) ≡ Some ms
  pub length : option_and_then number_in (nbits_in d) ≡ Some n
  pub below : All (λ m. m < 2 ^ w) ms

-- No digit of the last block that represents an index at or past n is 1.
pub record HasZeroTail (w : ℕ) (ms : List ℕ) (n : ℕ) : Type 0 where
  pub tail : (j : ℕ) → j < w → n ≤ (length ms - 1) * w + j → bit_at (get_or ms (length ms - 1) 0) j ≡ 0

-- The value spells the blocks of w digits with the numbers ms, and the length n.
pub record Spells (w : ℕ) (d : Data) (ms : List ℕ) (n : ℕ) : Type 0 where
  pub shape : HasShape d
  pub numbers : HasNumbers w d ms n
  pub count : length ms ≡ blocks_for w n
  pub zero_tail : HasZeroTail w ms n

-- The value spells nothing, and this is the first of the faults, in the order below, that it has.
abbrev pub IsFirstFault : ℕ → Data → JsonError → Type 0
IsFirstFault w d Shape = ¬ HasShape d
IsFirstFault w d Number = HasShape d × ((ms : List ℕ) (n : ℕ) → ¬ HasNumbers w d ms n)
IsFirstFault w d Blocks = HasShape d × ((ms : List ℕ) × (n : ℕ) × HasNumbers w d ms n × (length ms ≢ blocks_for w n))
IsFirstFault w d Unclean =
    HasShape d × ((ms : List ℕ) × (n : ℕ) × HasNumbers w d ms n × (length ms ≡ blocks_for w n) × ¬ HasZeroTail w ms n)
IsFirstFault w d (Memory _) = ⊥

-- The value gave no set: for its first fault, or for want of memory for the set that it spells.
abbrev pub IsFault : ℕ → Data → JsonError → Type 0
IsFault w d (Memory _) = (ms : List ℕ) × (n : ℕ) × Spells w d ms n
IsFault w d fault = IsFirstFault w d fault
