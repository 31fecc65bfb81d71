-- A line with an empty word, or with a byte that no command has, is a bad command.
use Rattle.std.proofs.Common.{◌≡◌, ⊎_elim, ℕ, Bool, true, false, ◌&&◌, ◌||◌, ◌==◌, nat_lt, nat_le, List, [], ◌∷◌, length, Option, None, Some, Err, inl, inr, arith, refl, ap, sym, ◌∙◌, leb-true, le-leb}
use Rattle.std.specs.{Char.{is_ascii_digit, is_ascii_lowercase}, Cmp.Lexicographic.same_text, Int.is_in_range}
use Rattle.std.specs.{List.{list_all, onto_first, Contains}, Map.lookup, Option.{option_and_then, option_zip}}
use Rattle.std.specs.Str.{all_ascii_digits, bytes_eq}
use Rattle.std.proofs.{Math.Bool.{and-true, and_assoc}, lemmas.Bool.Decides.eqb_tells, lemmas.List.Folds.list_all_at}
use Rattle.std.proofs.lemmas.Bool.{and_cases, and_parts, and_right, false_from_ne_true, or_parts, true≢false}
use Rattle.bit_set_commands.specs.{declared.reading.BadLine.TheVariants.BadCommand, declared.verbs.SetWalk.SetWalk}
use Rattle.bit_set_commands.specs.{Words.words_of, declared.verbs.SetWalk.TheVariants.{One, Two}}
use Rattle.bit_set_commands.specs.Reading.{all_numbers, alone, command_in_words, command_of, followed, is_plain, name_alone, name_and_number, name_of, number_alone, number_and_name, number_of, reading, rest_command, rest_of}
use Rattle.bit_set_commands.specs.Verbs.{usage_of, verbs, walk_of, walks, Usage, Name, NameAndNumber, TwoNames, NameAndNumbers, NamesAroundNumber, WalkAndItsWords}
use Rattle.bit_set_commands.proofs.ReadingLemmas.{nothing}

-- a word that a command can have: not empty, and each byte is plain
abbrev is_fit : List ℕ → Bool
is_fit [] = false
is_fit (b ∷ bs) = is_plain b && list_all is_plain bs

fit_is_plain : (word : List ℕ) → list_all is_plain word ≡ false → is_fit word ≡ false
fit_is_plain [] strange = cc
fit_is_plain (b ∷ bs) strange = strange

not_same : (word text : List ℕ) → is_fit text ≡ true → is_fit word ≡ false → bytes_eq word text ≡ false
not_same word text fit unfit =
    false_from_ne_true (bytes_eq word text) (λ e. true≢false (sym fit ∙ ap is_fit (sym (same_text word text (sym e))) ∙ unfit))

lookup-unfit : {V : Type 0} (entries : List (List ℕ × V)) (word : List ℕ) → list_all (λ e. is_fit e.0) entries ≡ true → is_fit word ≡ false → lookup (bytes_eq word) entries ≡ None
lookup-unfit [] word fit unfit = refl
lookup-unfit (e ∷ es) word fit unfit =
    let parts : (is_fit e.0 ≡ true) × (list_all (λ x. is_fit x.0) es ≡ true) = and_parts (is_fit e.0) (list_all (λ x. is_fit x.0) es) fit in
    rw (not_same word e.0 parts.0 unfit) (lookup-unfit es word parts.1 unfit)

-- a strange byte is no small letter and no digit
no_letter_or_digit : (b : ℕ) → is_plain b ≡ false → (is_ascii_lowercase b ≡ false) × (is_ascii_digit b ≡ false)
no_letter_or_digit b strange =
    let tests = or_parts (is_ascii_lowercase b || is_ascii_digit b || b == 95) (b == 32) strange in
    or_parts (is_ascii_lowercase b) (is_ascii_digit b) (or_parts (is_ascii_lowercase b || is_ascii_digit b) (b == 95) tests.0).0

name_is_plain : (b : ℕ) → is_plain b ≡ false → is_in_range 97 112 b ≡ false
name_is_plain b strange = false_from_ne_true (is_in_range 97 112 b) (λ e.
    let both : (nat_le 97 b ≡ true) × (nat_le b 112 ≡ true) = and_parts (nat_le 97 b) (nat_le b 112) e in
    let small : is_ascii_lowercase b ≡ true = rw (both.0, le-leb b 122 (omega (arith, leb-true b 112 both.1))) in
    true≢false (sym small ∙ (no_letter_or_digit b strange).0))

name_of-unfit : (word : List ℕ) → is_fit word ≡ false → name_of word ≡ None
name_of-unfit [] unfit = refl
name_of-unfit (letter ∷ []) unfit = rw (name_is_plain letter (sym (and-true (is_plain letter)) ∙ unfit))
name_of-unfit (letter ∷ more ∷ others) unfit = refl

digits_are_plain : (ds : List ℕ) → list_all is_plain ds ≡ false → all_ascii_digits ds ≡ false
digits_are_plain [] unfit = cc
digits_are_plain (d ∷ ds) unfit =
    ⊎_elim (λ e. rw (no_letter_or_digit d e).1) (λ e. and_right (is_ascii_digit d) (all_ascii_digits ds) (digits_are_plain ds e))
    (and_cases (is_plain d) (list_all is_plain ds) unfit)

number_of-unfit : (word : List ℕ) → is_fit word ≡ false → number_of word ≡ None
number_of-unfit [] unfit = refl
number_of-unfit (d ∷ ds) unfit =
    rw (and_right (nat_lt 0 (length (d ∷ ds))) (all_ascii_digits (d ∷ ds)) (digits_are_plain (d ∷ ds) unfit))

-- words that spell nothing where one of them is unfit
abbrev Refused : {X : Type 0} → (List (List ℕ) → Option X) → Type 0
Refused spelled = (words : List (List ℕ)) → list_all is_fit words ≡ false → spelled words ≡ None

alone-unfit : {X : Type 0} (spelled : List ℕ → Option X) → ((word : List ℕ) → is_fit word ≡ false → spelled word ≡ None) → Refused (alone spelled)
alone-unfit spelled unspelled [] unfit = refl
alone-unfit spelled unspelled (word ∷ []) unfit = unspelled word (sym (and-true (is_fit word)) ∙ unfit)
alone-unfit spelled unspelled (word ∷ more ∷ others) unfit = refl

zip_none : {X Y : Type 0} (a b : Bool) (x : Option X) (y : Option Y) → (a ≡ false → x ≡ None) → (b ≡ false → y ≡ None) → (a && b) ≡ false → option_zip x y ≡ None
zip_none a b x y first second none = ⊎_elim (λ e. rw (first e)) (λ e. rw (second e) (sym (nothing x))) (and_cases a b none)

followed-unfit : {X Y : Type 0} (first : List (List ℕ) → Option X) (others : List (List ℕ) → Option Y) → Refused first → Refused others → Refused (followed first others)
followed-unfit first others one more [] unfit = refl
followed-unfit first others one more (word ∷ words) unfit =
    zip_none (is_fit word) (list_all is_fit words) (first (word ∷ [])) (others words) (λ e. one (word ∷ []) (rw e)) (more words) unfit

name_alone-unfit : Refused name_alone
name_alone-unfit = alone-unfit name_of name_of-unfit

number_alone-unfit : Refused number_alone
number_alone-unfit = alone-unfit number_of number_of-unfit

name_and_number-unfit : Refused name_and_number
name_and_number-unfit = followed-unfit name_alone number_alone name_alone-unfit number_alone-unfit

all_numbers-unfit : Refused all_numbers
all_numbers-unfit [] unfit = cc
all_numbers-unfit (word ∷ words) unfit =
    rw (zip_none (is_fit word) (list_all is_fit words) (number_of word) (all_numbers words) (number_of-unfit word) (all_numbers-unfit words) unfit)

rest_command-unfit : (walk : Option SetWalk) → Refused (λ words. option_and_then (λ w. rest_command w words) walk)
rest_command-unfit None words unfit = refl
rest_command-unfit (Some One) words unfit = rw (name_and_number-unfit words unfit)
rest_command-unfit (Some (Two merge)) words unfit = rw (followed-unfit name_alone name_and_number name_alone-unfit name_and_number-unfit words unfit)

rest_of-unfit : Refused rest_of
rest_of-unfit [] unfit = refl
rest_of-unfit (word ∷ words) unfit =
    ⊎_elim (λ e. rw (lookup-unfit walks word refl e)) (rest_command-unfit (walk_of word) words) (and_cases (is_fit word) (list_all is_fit words) unfit)

command_of-unfit : (usage : Usage) → Refused (command_of usage)
command_of-unfit (Name make) words unfit = rw (name_alone-unfit words unfit)
command_of-unfit (NameAndNumber make) words unfit = rw (name_and_number-unfit words unfit)
command_of-unfit (TwoNames make) words unfit = rw (followed-unfit name_alone name_alone name_alone-unfit name_alone-unfit words unfit)
command_of-unfit (NameAndNumbers make) words unfit = rw (followed-unfit name_alone all_numbers name_alone-unfit all_numbers-unfit words unfit)
command_of-unfit (NamesAroundNumber make) words unfit = rw (followed-unfit name_alone number_and_name name_alone-unfit (followed-unfit number_alone name_alone number_alone-unfit name_alone-unfit) words unfit)
command_of-unfit WalkAndItsWords words unfit = rest_of-unfit words unfit

arguments_unfit : (found : Option Usage) → Refused (λ words. option_and_then (λ u. command_of u words) found)
arguments_unfit None words unfit = refl
arguments_unfit (Some u) words unfit = command_of-unfit u words unfit

command_in_words-unfit : Refused command_in_words
command_in_words-unfit [] unfit = refl
command_in_words-unfit (word ∷ words) unfit =
    ⊎_elim (λ e. rw (lookup-unfit verbs word refl e)) (arguments_unfit (usage_of word) words) (and_cases (is_fit word) (list_all is_fit words) unfit)

reading-unfit : (line : List ℕ) → list_all is_fit (words_of line) ≡ false → reading line ≡ Err BadCommand
reading-unfit line unfit = rw (command_in_words-unfit (words_of line) unfit)

pub reading-empty_word : (line : List ℕ) → Contains (words_of line) [] → reading line ≡ Err BadCommand
reading-empty_word line found = reading-unfit line (list_all_at is_fit (words_of line) found.0 [] found.1 (rw found.2))

onto_first-plain : (b : ℕ) (parts : List (List ℕ)) → list_all (list_all is_plain) (onto_first b parts) ≡ (is_plain b && list_all (list_all is_plain) parts)
onto_first-plain b [] = and_assoc (is_plain b) true true
onto_first-plain b (part ∷ parts) = and_assoc (is_plain b) (list_all is_plain part) (list_all (list_all is_plain) parts)

words_of-plain : (line : List ℕ) → list_all (list_all is_plain) (words_of line) ≡ list_all is_plain line
words_of-plain [] = refl
words_of-plain (b ∷ bs) = elim (eqb_tells b 32) [
  | inl same ↦ rw (same.0, same.1, words_of-plain bs)
  | inr other ↦ rw (other.0, onto_first-plain b (words_of bs), words_of-plain bs, other.0)
]

plain_to_fit : (words : List (List ℕ)) → list_all (list_all is_plain) words ≡ false → list_all is_fit words ≡ false
plain_to_fit [] strange = cc
plain_to_fit (word ∷ words) strange =
    ⊎_elim (λ e. rw (fit_is_plain word e)) (λ e. and_right (is_fit word) (list_all is_fit words) (plain_to_fit words e))
    (and_cases (list_all is_plain word) (list_all (list_all is_plain) words) strange)

pub reading-strange_byte : (line : List ℕ) (b : ℕ) → Contains line b → is_plain b ≡ false → reading line ≡ Err BadCommand
reading-strange_byte line b found strange =
    reading-unfit line (plain_to_fit (words_of line) (words_of-plain line ∙ list_all_at is_plain line found.0 b found.1 (rw found.2 strange)))
