-- The command that a line spells.
use Rattle.std.specs.Prelude.{ℕ, ◌-◌, Bool, ◌&&◌, ◌||◌, ◌==◌, nat_lt, nat_le, if◌then◌else◌, List, [], ◌∷◌, length, Option, None, Some, Result, Ok, Err}
use Rattle.std.specs.{Char.{is_ascii_digit, is_ascii_lowercase}, Int.is_in_range, List.list_all, Str.all_ascii_digits}
use Rattle.std.specs.{Option.{option_and_then, option_map, option_zip}, Str.Parse.digits_value}
use Rattle.bit_set_commands.specs.{Words.words_of, declared.commands.Command.Command, declared.reading.BadLine.BadLine}
use Rattle.bit_set_commands.specs.declared.commands.Command.TheVariants as command
use Rattle.bit_set_commands.specs.{Spelling.numbers_of, declared.reading.BadLine.TheVariants.{BadCommand, BadNumber}}
use Rattle.bit_set_commands.specs.{declared.verbs.SetWalk.SetWalk, declared.verbs.SetWalk.TheVariants.{One, Two}}
use Rattle.bit_blocks.specs.Bounds.{greatest}
use Rattle.bit_set_commands.specs.Verbs.{usage_of, walk_of, Usage, Name, NameAndNumber, TwoNames, NameAndNumbers, NamesAroundNumber, WalkAndItsWords}

-- the place of the set that a word names: one letter from `a`, the first, to `p`
abbrev pub name_of : List ℕ → Option ℕ
name_of [] = None
name_of (letter ∷ []) = if is_in_range 97 112 letter then Some (letter - 97) else None
name_of (letter ∷ more ∷ others) = None

-- the number that a word writes, however large: one or more digits, of which the first may be zeros
abbrev pub number_of : List ℕ → Option ℕ
number_of word = if nat_lt 0 (length word) && all_ascii_digits word then Some (digits_value 10 word) else None

-- one word and no other, which spells this
abbrev pub alone : {X : Type 0} → (List ℕ → Option X) → List (List ℕ) → Option X
alone spelled [] = None
alone spelled (word ∷ []) = spelled word
alone spelled (word ∷ more ∷ others) = None

-- words of which the first spells one thing, and all behind it another
abbrev pub followed : {X Y : Type 0} → (List (List ℕ) → Option X) → (List (List ℕ) → Option Y) → List (List ℕ) → Option (X × Y)
followed first others [] = None
followed first others (word ∷ words) = option_zip (first (word ∷ [])) (others words)

-- words that are a set's name alone, or a number alone
abbrev pub name_alone : List (List ℕ) → Option ℕ
name_alone = alone name_of

abbrev pub number_alone : List (List ℕ) → Option ℕ
number_alone = alone number_of

-- words that are a set's name and a number, or a number and a name
abbrev pub name_and_number : List (List ℕ) → Option (ℕ × ℕ)
name_and_number = followed name_alone number_alone

abbrev pub number_and_name : List (List ℕ) → Option (ℕ × ℕ)
number_and_name = followed number_alone name_alone

-- words that are two sets' names
abbrev pub two_names : List (List ℕ) → Option (ℕ × ℕ)
two_names = followed name_alone name_alone

-- words that are two sets' names and a number, behind them or between them
abbrev pub names_and_number : List (List ℕ) → Option (ℕ × (ℕ × ℕ))
names_and_number = followed name_alone name_and_number

abbrev pub names_around_number : List (List ℕ) → Option (ℕ × (ℕ × ℕ))
names_around_number = followed name_alone number_and_name

-- the numbers that words write, where each of them writes one
abbrev pub all_numbers : List (List ℕ) → Option (List ℕ)
all_numbers [] = Some []
all_numbers (word ∷ words) = option_map (λ (n, ns). n ∷ ns) (option_zip (number_of word) (all_numbers words))

-- words that are a set's name and any number of numbers
abbrev pub name_and_numbers : List (List ℕ) → Option (ℕ × List ℕ)
name_and_numbers = followed name_alone all_numbers

-- the command that a walk and the words after it spell, behind `rest`
abbrev pub rest_command : SetWalk → List (List ℕ) → Option Command
rest_command One words = option_map (λ (s, n). command.RestIter s n) (name_and_number words)
rest_command (Two merge) words = option_map (λ (s, p). command.RestWalk merge s p.0 p.1) (names_and_number words)

abbrev pub rest_of : List (List ℕ) → Option Command
rest_of [] = None
rest_of (word ∷ words) = option_and_then (λ walk. rest_command walk words) (walk_of word)

-- the command that a verb of this usage and the words after it spell, however large its numbers
abbrev pub command_of : Usage → List (List ℕ) → Option Command
command_of (Name make) words = option_map make (name_alone words)
command_of (NameAndNumber make) words = option_map (λ (s, n). make s n) (name_and_number words)
command_of (TwoNames make) words = option_map (λ (s, t). make s t) (two_names words)
command_of (NameAndNumbers make) words = option_map (λ (s, ns). make s ns) (name_and_numbers words)
command_of (NamesAroundNumber make) words = option_map (λ (s, p). make s p.0 p.1) (names_around_number words)
command_of WalkAndItsWords words = rest_of words

-- the command that some words spell, the first of them its verb
abbrev pub command_in_words : List (List ℕ) → Option Command
command_in_words [] = None
command_in_words (word ∷ words) = option_and_then (λ usage. command_of usage words) (usage_of word)

-- what was spelled, where its numbers are none of them too large
abbrev pub within_range : {X : Type 0} → (X → List ℕ) → Option X → Result X BadLine
within_range numbers None = Err BadCommand
within_range numbers (Some x) = if list_all (λ n. nat_le n greatest) (numbers x) then Ok x else Err BadNumber

-- A line whose words spell no command is a bad command; one that spells a command with too large a
-- number is a bad number.
abbrev pub reading : List ℕ → Result Command BadLine
reading line = within_range numbers_of (command_in_words (words_of line))

-- the bytes that a command's line can have: small letters, digits, the low line and the space
abbrev pub is_plain : ℕ → Bool
is_plain b = is_ascii_lowercase b || is_ascii_digit b || b == 95 || b == 32

-- The number where a `usize` holds it. No public clause cites this.
abbrev pub fitting_number : ℕ → Option ℕ
fitting_number n = if nat_le n greatest then Some n else None
