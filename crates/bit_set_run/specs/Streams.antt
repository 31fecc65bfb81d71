-- What reading an input to its end and writing an output do to a reader and a writer whose bytes are known.
use Rattle.std.specs.{Prelude.{◌≡◌, ◌≢◌, ℕ, ◌<◌, ◌≤◌, ◌⊎◌, List, [], ◌++◌, length, Option}, declared.io.Error.Error}
use Rattle.std.specs.Io.KnownBytes.{Consumes, IsAtEnd, Appends}

-- the greatest number of bytes that an input may have
abbrev pub limit : ℕ
limit = 1048576

-- the reader gave the input, to its end
pub record GaveAll (old new : Option (List ℕ)) (input : List ℕ) : Type 0 where
  pub taken : Consumes old new input
  pub ended : IsAtEnd new
  pub small : length input ≤ limit

-- the reader gave this many bytes
pub record GaveCount (old new : Option (List ℕ)) (count : ℕ) : Type 0 where
  pub bytes : List ℕ
  pub taken : Consumes old new bytes
  pub count_is : length bytes ≡ count

-- the reader gave this many bytes or fewer, and one at least
pub record GaveSome (old new : Option (List ℕ)) (count : ℕ) : Type 0 where
  pub bytes : List ℕ
  pub taken : Consumes old new bytes
  pub some : 0 < length bytes
  pub few : length bytes ≤ count

-- the reader gave this many bytes or fewer, and then a read failed with this error
pub record GaveUntil (old new : Option (List ℕ)) (count : ℕ) : Type 0 where
  pub bytes : List ℕ
  pub taken : Consumes old new bytes
  pub few : length bytes ≤ count
  pub error : Error

-- The writer holds a beginning of the text more than before. It is not the whole, or the flush behind it failed with
-- this error.
pub record HoldsBeginning (old new : Option (List ℕ)) (text : List ℕ) : Type 0 where
  pub sent : List ℕ
  pub unsent : List ℕ
  pub parts : text ≡ sent ++ unsent
  pub written : Appends old new sent
  pub stopped : (unsent ≢ []) ⊎ Error
