-- Numbers read a digit at a time, and what a line's words come to.
use Rattle.std.proofs.Common.{◌≡◌, ℕ, zero, suc, ◌+◌, ◌-◌, ◌*◌, ◌<◌, Bool, true, false, not, ◌&&◌, List, [], ◌∷◌, ◌++◌, length, take, get_or, ap, sym, ◌∙◌, refl, arith, eqb, nat_lt, ◌⊎◌, inl, inr, Option, None, Some, Result, Ok, Err, nat_le, if◌then◌else◌}
use Rattle.std.specs.{Char.{is_ascii_digit, digit_value, IsAsciiDigit}, Str.all_ascii_digits, Str.Parse.digits_value}
use Rattle.std.proofs.{lemmas.Bool.Decides.eqb_tells, lemmas.Int.Digits.digits_value_more, lemmas.Str.digit_value_digit}
use Rattle.std.proofs.{lemmas.Bool.{and_parts, and_right}, lemmas.List.Folds.list_all-append}
use Rattle.std.specs.{List.list_all, Option.{option_and_then, option_zip}, Result.result_and}
use Rattle.bit_set_commands.specs.{Cuts.Lacks, declared.reading.BadLine.BadLine, declared.verbs.SetWalk.SetWalk}
use Rattle.bit_set_commands.specs.{Spelling.numbers_of, Words.words_of, declared.verbs.SetWalk.TheVariants.{One, Two}}
use Rattle.bit_set_commands.specs.declared.reading.BadLine.TheVariants.{BadCommand, BadNumber}
use Rattle.bit_set_commands.specs.Reading.{alone, command_of, fitting_number, followed, name_alone, name_of, number_alone, number_of, reading, rest_command, rest_of, within_range}
use Rattle.bit_set_commands.specs.Verbs.{usage_of, walk_of, Usage, Name}
use Rattle.bit_blocks.specs.Bounds.{greatest}
use Rattle.bit_set_commands.proofs.CutLemmas.{parts_at-first, parts_at-one, parts_some}

-- a byte that is no digit
pub not_all_digits : (ds : List ℕ) (i : ℕ) → i < length ds → is_ascii_digit (get_or ds i 0) ≡ false → all_ascii_digits ds ≡ false
not_all_digits [] i below other = absurd (omega arith)
not_all_digits (d ∷ ds) zero below other = rw other
not_all_digits (d ∷ ds) (suc i) below other = and_right (is_ascii_digit d) (all_ascii_digits ds) (not_all_digits ds i (omega arith) other)

-- one more digit
pub all_digits_more : (ds : List ℕ) (i : ℕ) → i < length ds → all_ascii_digits (take i ds) ≡ true → is_ascii_digit (get_or ds i 0) ≡ true → all_ascii_digits (take (suc i) ds) ≡ true
all_digits_more [] i below so_far digit = absurd (omega arith)
all_digits_more (d ∷ ds) zero below so_far digit = rw digit
all_digits_more (d ∷ ds) (suc i) below so_far digit =
    let parts : (is_ascii_digit d ≡ true) × (all_ascii_digits (take i ds) ≡ true) = and_parts (is_ascii_digit d) (all_ascii_digits (take i ds)) so_far in
    rw (parts.0, all_digits_more ds i (omega arith) parts.1 digit)

-- with such a byte a word is no number
pub number_of-other : (ds : List ℕ) (i : ℕ) → i < length ds → is_ascii_digit (get_or ds i 0) ≡ false → number_of ds ≡ None
number_of-other ds i below other = rw (and_right (nat_lt 0 (length ds)) (all_ascii_digits ds) (not_all_digits ds i below other))

-- the number so far, with one more digit behind it
pub fitting_number-more : (ds : List ℕ) (i : ℕ) (number next : Option ℕ) → i < length ds → IsAsciiDigit (get_or ds i 0) → ((n : ℕ) → number ≡ fitting_number n → next ≡ fitting_number (n * 10 + (get_or ds i 0 - 48))) → number ≡ fitting_number (digits_value 10 (take i ds)) → next ≡ fitting_number (digits_value 10 (take (i + 1) ds))
fitting_number-more ds i number next below digit step so_far =
    let value : digit_value (get_or ds i 0) + 48 ≡ get_or ds i 0 = digit_value_digit (get_or ds i 0) digit in
    let same : digits_value 10 (take (i + 1) ds) ≡ digits_value 10 (take i ds) * 10 + (get_or ds i 0 - 48) = omega (arith, digits_value_more 10 ds i below) in
    step (digits_value 10 (take i ds)) so_far ∙ ap fitting_number (sym same)

-- A line with a space in it has two words or more.
record IsCut (text : List ℕ) : Type 0 where
  first : List ℕ
  second : List ℕ
  others : List (List ℕ)
  place : ℕ
  words : words_of text ≡ first ∷ second ∷ others
  below : place < length text
  space : get_or text place 0 ≡ 32

first_space : (b : ℕ) (bs : List ℕ) → eqb b 32 ≡ true → b ≡ 32 → IsCut (b ∷ bs)
first_space b bs test same = elim (words_of bs) as (λ ws. words_of bs ≡ ws → IsCut (b ∷ bs)) [
  | [] ↦ λ e. absurd (parts_some 32 bs e)
  | w ∷ ws ↦ λ e. record { first = []; second = w; others = ws; place = 0; words = rw (test, e); below = omega arith; space = same }
] refl

-- a text is its one word, or has a space
one_word : (text : List ℕ) → (words_of text ≡ text ∷ []) ⊎ IsCut text
one_word [] = inl refl
one_word (b ∷ bs) = elim (eqb_tells b 32) [
  | inl same ↦ inr (first_space b bs same.0 same.1)
  | inr other ↦ elim (one_word bs) [
    | inl alone ↦ inl (rw (other.0, alone))
    | inr two ↦ inr record {
      first = b ∷ two.first;
      second = two.second;
      others = two.others;
      place = suc two.place;
      words = rw (other.0, two.words);
      below = omega (arith, two.below);
      space = two.space;
    }
  ]
]

-- with a space in it a word names no set and is no number
name_of-cut : (text : List ℕ) (place : ℕ) → place < length text → get_or text place 0 ≡ 32 → name_of text ≡ None
name_of-cut [] place below space = absurd (omega arith)
name_of-cut (letter ∷ []) zero below space = rw space
name_of-cut (letter ∷ []) (suc place) below space = absurd (omega arith)
name_of-cut (letter ∷ more ∷ others) place below space = refl

number_of-cut : (text : List ℕ) (place : ℕ) → place < length text → get_or text place 0 ≡ 32 → number_of text ≡ None
number_of-cut text place below space = number_of-other text place below (rw space)

-- one word alone is the whole text
alone-text : {X : Type 0} (spelled : List ℕ → Option X) → ((text : List ℕ) (place : ℕ) → place < length text → get_or text place 0 ≡ 32 → spelled text ≡ None) → (text : List ℕ) → alone spelled (words_of text) ≡ spelled text
alone-text spelled cut text = elim (one_word text) [
  | inl same ↦ rw same
  | inr two ↦ rw (two.words, cut text two.place two.below two.space)
]

pub name_alone-text : (text : List ℕ) → name_alone (words_of text) ≡ name_of text
name_alone-text = alone-text name_of name_of-cut

pub number_alone-text : (text : List ℕ) → number_alone (words_of text) ≡ number_of text
number_alone-text = alone-text number_of number_of-cut

pub nothing : {X Y : Type 0} (x : Option X) → None ≡ option_zip {U = Y} x None
nothing None = refl
nothing (Some x) = refl

-- without a space there is nothing behind the first word
pub followed-word : {X Y : Type 0} (first : List (List ℕ) → Option X) (others : List (List ℕ) → Option Y) (word : List ℕ) → others [] ≡ None → Lacks 32 word → followed first others (words_of word) ≡ None
followed-word first others word none lacks = rw (parts_at-one 32 word lacks, none) (sym (nothing (first (word ∷ []))))

-- What is said of two values, by what is said of each: a word that fits nothing comes before a number too large.
abbrev pub both : {X Y : Type 0} → Result X BadLine → Result Y BadLine → Result (X × Y) BadLine
both (Err BadCommand) second = Err BadCommand
both (Err BadNumber) second = result_and second (Err BadNumber)
both (Ok x) (Ok y) = Ok (x, y)
both (Ok x) (Err bad) = Err bad

both-tests : {X Y : Type 0} (s t : Bool) (x : X) (y : Y) → both (if s then Ok x else Err BadNumber) (if t then Ok y else Err BadNumber) ≡ (if s && t then Ok (x, y) else Err BadNumber)
both-tests true true x y = refl
both-tests true false x y = refl
both-tests false true x y = refl
both-tests false false x y = refl

both-test : {X Y : Type 0} (s : Bool) (x : X) → both {Y = Y} (if s then Ok x else Err BadNumber) (Err BadCommand) ≡ Err BadCommand
both-test true x = refl
both-test false x = refl

both-zip : {X Y : Type 0} (numbers : X → List ℕ) (others : Y → List ℕ) (x : Option X) (y : Option Y) → both (within_range numbers x) (within_range others y) ≡ within_range (λ p. numbers p.0 ++ others p.1) (option_zip x y)
both-zip numbers others None y = refl
both-zip numbers others (Some x) None = both-test (list_all (λ n. nat_le n greatest) (numbers x)) x
both-zip numbers others (Some x) (Some y) =
    rw list_all-append (both-tests (list_all (λ n. nat_le n greatest) (numbers x)) (list_all (λ n. nat_le n greatest) (others y)) x y)

-- what is said of a word and of all behind it
pub followed-words : {X Y : Type 0} (first : List (List ℕ) → Option X) (others : List (List ℕ) → Option Y) (numbers : X → List ℕ) (more : Y → List ℕ) (word words : List ℕ) → Lacks 32 word → both (within_range numbers (first (words_of word))) (within_range more (others (words_of words))) ≡ within_range (λ p. numbers p.0 ++ more p.1) (followed first others (words_of (word ++ 32 ∷ words)))
followed-words first others numbers more word words lacks =
    rw (parts_at-first 32 word words lacks, parts_at-one 32 word lacks) (both-zip numbers more (first (word ∷ [])) (others (words_of words)))

-- what is said of numbers of which some are read, and whether one of those was too large
abbrev pub told : List ℕ → Bool → Option (List ℕ) → Result (List ℕ) BadLine
told read large None = Err BadCommand
told read large (Some ns) = if not large && list_all (λ n. nat_le n greatest) ns then Ok (read ++ ns) else Err BadNumber

-- `rest` and a walk alone
rest_command-alone : (walk : Option SetWalk) → option_and_then (λ w. rest_command w []) walk ≡ None
rest_command-alone None = refl
rest_command-alone (Some One) = refl
rest_command-alone (Some (Two merge)) = refl

pub rest_of-alone : (word : List ℕ) → rest_of (word ∷ []) ≡ None
rest_of-alone word = rest_command-alone (walk_of word)

usage_alone : (found : Option Usage) → option_and_then (λ u. command_of u []) found ≡ None
usage_alone None = refl
usage_alone (Some (Name make)) = refl
usage_alone found = refl

-- a line without a space spells nothing, since each verb wants a name
pub reading-word : (line : List ℕ) → Lacks 32 line → reading line ≡ Err BadCommand
reading-word line lacks = rw (parts_at-one 32 line lacks) (ap (within_range numbers_of) (usage_alone (usage_of line)))

-- a line with one is a verb and the words after the space
pub reading-words : (word words : List ℕ) → Lacks 32 word → reading (word ++ 32 ∷ words) ≡ within_range numbers_of (option_and_then (λ u. command_of u (words_of words)) (usage_of word))
reading-words word words lacks = rw (parts_at-first 32 word words lacks)
