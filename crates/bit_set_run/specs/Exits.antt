-- The words that the program takes, and how it ends.
use Rattle.std.specs.Prelude.{ℕ, Bool, if◌then◌else◌, List, [], ◌∷◌, codes, Option, None, Some, Result, Ok, Err, is_some}
use Rattle.std.specs.Str.{bytes_eq}
use Rattle.bit_set_run.specs.{declared.starting.BlockType.BlockType, declared.streams.LinesFault.LinesFault}
use Rattle.bit_set_run.specs.declared.starting.BlockType.TheVariants.{U8, U16, U32, U64, Usize, U128}
use Rattle.bit_set_run.specs.declared.streams.LinesFault.TheVariants.{Read, TooLarge, Memory, Write}

-- the block type that a word names
abbrev pub type_of_word : List ℕ → Option BlockType
type_of_word word =
    if bytes_eq word (codes "u8") then Some U8
    else if bytes_eq word (codes "u16") then Some U16
    else if bytes_eq word (codes "u32") then Some U32
    else if bytes_eq word (codes "u64") then Some U64
    else if bytes_eq word (codes "usize") then Some Usize
    else if bytes_eq word (codes "u128") then Some U128
    else None

-- The block type that the words choose: u32 where there is no word, and none where they are not the program's.
abbrev pub type_of_words : List (List ℕ) → Option BlockType
type_of_words [] = Some U32
type_of_words (word ∷ []) = type_of_word word
type_of_words (word ∷ more ∷ words) = None

-- whether the program takes these words: none, or the name of a block type
abbrev pub takes : List (List ℕ) → Bool
takes words = is_some (type_of_words words)

-- what is said of other words, at status 2
abbrev pub usage : List ℕ
usage = codes "usage: bitset [u8|u16|u32|u64|usize|u128]"

-- the status at each end of a run over an input, and the text at it
abbrev pub status_at : {X : Type 0} → Result X LinesFault → ℕ
status_at (Ok x) = 0
status_at (Err Memory) = 3
status_at (Err Read) = 4
status_at (Err Write) = 4
status_at (Err TooLarge) = 5

abbrev pub text_at : {X : Type 0} → Result X LinesFault → List ℕ
text_at (Ok x) = []
text_at (Err Memory) = codes "memory refused"
text_at (Err Read) = codes "read failed"
text_at (Err Write) = codes "write failed"
text_at (Err TooLarge) = codes "input too large"
