-- The entries of an array of JSON beside the numbers that they spell. No public clause cites this.
use Rattle.std.specs.Prelude.{◌≡◌, ◌≢◌, ℕ, ◌+◌, ◌^◌, ◌<◌, Bool, false, ◌||◌, List, length, map, get_or, All, Some, unwrap_or}
use Rattle.serde_json.specs.{Data.{Data, Items, number, unsigned}, View.view, declared.value.Value.Value}
use Rattle.bit_blocks.specs.Digits.{is_one}
use Rattle.bit_set.specs.Json.{HasShape, number_in, storage_in, nbits_in}

-- the number of an entry, 0 where it has none
abbrev pub number_of_entry : Value → ℕ
number_of_entry v = unwrap_or (number_in (view v)) 0

abbrev pub numbers_of : List Value → List ℕ
numbers_of vs = map number_of_entry vs

-- the entry is the number of a block of w digits
pub record IsEntry (w : ℕ) (v : Value) : Type 0 where
  pub number : number_in (view v) ≡ Some (number_of_entry v)
  pub below : number_of_entry v < 2 ^ w

-- a value of the shape has these at `storage` and at `nbits`
pub record AreParts (d : Data) (storage : Items) (nbits : Data) : Type 0 where
  pub shape : HasShape d
  pub at_storage : storage_in d ≡ Some storage
  pub at_nbits : nbits_in d ≡ Some nbits

-- each entry is the number of a block of w digits, and the length is n
pub record HasLength (w : ℕ) (vs : List Value) (nbits : Data) (n : ℕ) : Type 0 where
  pub entries : All (IsEntry w) vs
  pub length : number_in nbits ≡ Some n

-- Of the digits of a block `whole` all but those of `left` are put into the values from `index` on, which were false.
pub record IsPartlyPut (w index whole left : ℕ) (old new : List Bool) : Type 0 where
  pub values : (j : ℕ) → j < w → (get_or new (index + j) false || is_one left j) ≡ is_one whole j
  pub others : (i : ℕ) → ((j : ℕ) → j < w → i ≢ index + j) → get_or new i false ≡ get_or old i false
  pub long : length new ≡ length old

-- the entries are just these numbers
abbrev pub AreNumbers : List ℕ → List Value → Type 0
AreNumbers ms vs = map view vs ≡ map (λ m. number (unsigned m)) ms
