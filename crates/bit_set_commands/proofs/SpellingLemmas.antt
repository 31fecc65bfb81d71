-- The line of a command is read as that command.
use Rattle.std.proofs.Common.{◌≡◌, ℕ, ◌+◌, ◌-◌, ◌<◌, ◌≤◌, ◌^◌, ◌==◌, not, true, ◌≢◌, List, [], ◌∷◌, ◌++◌, length, Some, Ok, map, arith, refl, ap, ◌∙◌, append-nil, nat_le, lt-ltb, le-leb}
use Rattle.std.specs.{Char.is_ascii_digit, List.{list_all, All, flat_map}, Prelude.{codes, decimal}}
use Rattle.std.{specs.{Str.all_ascii_digits, Str.Parse.digits_value}, proofs.lemmas.Bool.{and_parts, false≢true}}
use Rattle.std.proofs.lemmas.Fmt.{decimal_nonempty, digits_decimal, digits_value-decimal}
use Rattle.std.proofs.lemmas.List.Elements.{All-cons, All-head, All-nil, All-tail}
use Rattle.std.proofs.lemmas.Str.Parse.{IsNumeralModel, numerals_by_value, tells_all_ascii_digits}
use Rattle.bit_blocks.specs.{Bounds.greatest, declared.block.merge.Merge.Merge}
use Rattle.bit_blocks.specs.declared.block.merge.Merge.TheVariants.{Union, Intersection, Difference, Symmetric}
use Rattle.bit_set_commands.specs.{Cuts.Lacks, declared.commands.Command.Command, declared.verbs.SetWalk.SetWalk}
use Rattle.bit_set_commands.specs.declared.commands.Command.TheVariants as command
use Rattle.bit_set_commands.specs.{Words.words_of, declared.verbs.SetWalk.TheVariants.{One, Two}}
use Rattle.bit_set_commands.specs.Reading.{all_numbers, command_of, name_of, number_of, reading, rest_command, within_range}
use Rattle.bit_set_commands.specs.Spelling.{figures, letter, line_of, numbers_of, CanBeHad}
use Rattle.bit_set_commands.specs.Verbs.{usage_of, walk_of, Usage, Name, NameAndNumber, TwoNames, NameAndNumbers, NamesAroundNumber, WalkAndItsWords}
use Rattle.bit_set_commands.proofs.CutLemmas.{lacks_by_test, parts_at-first, parts_at-one}

own : IsNumeralModel (λ ds. all_ascii_digits ds ≡ true) (digits_value 10)
own = numerals_by_value (λ ds. all_ascii_digits ds ≡ true) tells_all_ascii_digits

number_of-decimal : (n : ℕ) → n ≤ greatest → number_of (decimal n) ≡ Some n
number_of-decimal n fits =
    let small : n < 2 ^ 64 = omega arith in
    rw (lt-ltb 0 (length (decimal n)) (decimal_nonempty n small), digits_decimal own n small, digits_value-decimal own n small)

name_of-letter : (place : ℕ) → place < 16 → name_of ((place + 97) ∷ []) ≡ Some place
name_of-letter place below =
    let same : place + 97 - 97 ≡ place = omega arith in
    rw (le-leb 97 (place + 97) (omega arith), le-leb (place + 97) 112 (omega arith), same)

one_byte : (b : ℕ) → b ≢ 32 → Lacks 32 (b ∷ [])
one_byte b other = All-cons (λ x. x ≢ 32) b [] other (All-nil (λ x. x ≢ 32))

digits_lack : (ds : List ℕ) → all_ascii_digits ds ≡ true → Lacks 32 ds
digits_lack [] all = All-nil (λ b. b ≢ 32)
digits_lack (d ∷ ds) all =
    let parts : (is_ascii_digit d ≡ true) × (all_ascii_digits ds ≡ true) = and_parts (is_ascii_digit d) (all_ascii_digits ds) all in
    All-cons (λ b. b ≢ 32) d ds (λ e. false≢true (rw e at parts.0)) (digits_lack ds parts.1)

decimal_lacks : (n : ℕ) → n ≤ greatest → Lacks 32 (decimal n)
decimal_lacks n fits = let small : n < 2 ^ 64 = omega arith in digits_lack (decimal n) (digits_decimal own n small)

words_of-figures : (word ns : List ℕ) → Lacks 32 word → All (λ m. m ≤ greatest) ns → words_of (word ++ flat_map figures ns) ≡ word ∷ map decimal ns
words_of-figures word [] lacks fit = rw (append-nil word) (parts_at-one 32 word lacks)
words_of-figures word (n ∷ ns) lacks fit =
    parts_at-first 32 word (decimal n ++ flat_map figures ns) lacks
    ∙ ap (λ ws. word ∷ ws) (words_of-figures (decimal n) ns (decimal_lacks n (All-head (λ m. m ≤ greatest) n ns fit)) (All-tail (λ m. m ≤ greatest) n ns fit))

all_numbers-decimal : (ns : List ℕ) → All (λ m. m ≤ greatest) ns → all_numbers (map decimal ns) ≡ Some ns
all_numbers-decimal [] fit = refl
all_numbers-decimal (n ∷ ns) fit =
    rw (number_of-decimal n (All-head (λ m. m ≤ greatest) n ns fit), all_numbers-decimal ns (All-tail (λ m. m ≤ greatest) n ns fit))

all_fit : (ns : List ℕ) → All (λ m. m ≤ greatest) ns → list_all (λ m. nat_le m greatest) ns ≡ true
all_fit [] fit = refl
all_fit (n ∷ ns) fit = rw (le-leb n greatest (All-head (λ m. m ≤ greatest) n ns fit), all_fit ns (All-tail (λ m. m ≤ greatest) n ns fit))

-- what a line is made of
abbrev AreNames : List ℕ → Type 0
AreNames names = All (λ s. s < 16) names

abbrev AreFit : List ℕ → Type 0
AreFit ns = All (λ m. m ≤ greatest) ns

abbrev IsOneWord : List ℕ → Type 0
IsOneWord word = list_all (λ b. not (b == 32)) word ≡ true

abbrev spelled : List ℕ → List ℕ → List ℕ → List ℕ
spelled word names ns = word ++ (flat_map letter names ++ flat_map figures ns)

-- the words of a line: its word, the letters of its sets and its numbers in decimal
words_of-line : (word names ns : List ℕ) → Lacks 32 word → AreNames names → AreFit ns → words_of (spelled word names ns) ≡ word ∷ (map (λ s. (s + 97) ∷ []) names ++ map decimal ns)
words_of-line word [] ns lacks below fit = words_of-figures word ns lacks fit
words_of-line word (s ∷ names) ns lacks below fit =
    parts_at-first 32 word ((s + 97) ∷ (flat_map letter names ++ flat_map figures ns)) lacks
    ∙ ap (λ ws. word ∷ ws) (words_of-line ((s + 97) ∷ []) names ns (one_byte (s + 97) (λ e. absurd (omega arith))) (All-tail (λ s. s < 16) s names below) fit)

-- A line of each shape is read as the command of its verb.
verb_line : (usage : Usage) (word names ns : List ℕ) → IsOneWord word → usage_of word ≡ Some usage → AreNames names → AreFit ns → reading (spelled word names ns) ≡ within_range numbers_of (command_of usage (map (λ s. (s + 97) ∷ []) names ++ map decimal ns))
verb_line usage word names ns plain is below fit = rw (words_of-line word names ns (lacks_by_test 32 word plain) below fit, is)

rest_line : (walk : SetWalk) (verb word names ns : List ℕ) → IsOneWord verb → usage_of verb ≡ Some WalkAndItsWords → IsOneWord word → walk_of word ≡ Some walk → AreNames names → AreFit ns → reading (verb ++ 32 ∷ (spelled word names ns)) ≡ within_range numbers_of (rest_command walk (map (λ s. (s + 97) ∷ []) names ++ map decimal ns))
rest_line walk verb word names ns one rest two is below fit =
    rw (parts_at-first 32 verb (spelled word names ns) (lacks_by_test 32 verb one), rest, words_of-line word names ns (lacks_by_test 32 word two) below fit, is)

name_line : (make : ℕ → Command) (word : List ℕ) (s : ℕ) → IsOneWord word → usage_of word ≡ Some (Name make) → numbers_of (make s) ≡ [] → AreNames (s ∷ []) → reading (spelled word (s ∷ []) []) ≡ Ok (make s)
name_line make word s plain is none below =
    verb_line (Name make) word (s ∷ []) [] plain is below (All-nil (λ m. m ≤ greatest))
    ∙ rw (name_of-letter s (All-head (λ s. s < 16) s [] below), none)

number_line : (make : ℕ → ℕ → Command) (word : List ℕ) (s n : ℕ) → IsOneWord word → usage_of word ≡ Some (NameAndNumber make) → numbers_of (make s n) ≡ n ∷ [] → AreNames (s ∷ []) → AreFit (n ∷ []) → reading (spelled word (s ∷ []) (n ∷ [])) ≡ Ok (make s n)
number_line make word s n plain is one below fit =
    verb_line (NameAndNumber make) word (s ∷ []) (n ∷ []) plain is below fit
    ∙ rw (name_of-letter s (All-head (λ s. s < 16) s [] below), number_of-decimal n (All-head (λ m. m ≤ greatest) n [] fit), one, all_fit (n ∷ []) fit)

pair_line : (make : ℕ → ℕ → Command) (word : List ℕ) (s t : ℕ) → IsOneWord word → usage_of word ≡ Some (TwoNames make) → numbers_of (make s t) ≡ [] → AreNames (s ∷ t ∷ []) → reading (spelled word (s ∷ t ∷ []) []) ≡ Ok (make s t)
pair_line make word s t plain is none below =
    let second : t < 16 = All-head (λ s. s < 16) t [] (All-tail (λ s. s < 16) s (t ∷ []) below) in
    verb_line (TwoNames make) word (s ∷ t ∷ []) [] plain is below (All-nil (λ m. m ≤ greatest))
    ∙ rw (name_of-letter s (All-head (λ s. s < 16) s (t ∷ []) below), name_of-letter t second, none)

extend_line : (word : List ℕ) (s : ℕ) (ns : List ℕ) → IsOneWord word → usage_of word ≡ Some (NameAndNumbers command.Extend) → AreNames (s ∷ []) → AreFit ns → reading (spelled word (s ∷ []) ns) ≡ Ok (command.Extend s ns)
extend_line word s ns plain is below fit =
    verb_line (NameAndNumbers command.Extend) word (s ∷ []) ns plain is below fit
    ∙ rw (name_of-letter s (All-head (λ s. s < 16) s [] below), all_numbers-decimal ns fit, all_fit ns fit)

rest_iter_line : (verb word : List ℕ) (s n : ℕ) → IsOneWord verb → usage_of verb ≡ Some WalkAndItsWords → IsOneWord word → walk_of word ≡ Some One → AreNames (s ∷ []) → AreFit (n ∷ []) → reading (verb ++ 32 ∷ (spelled word (s ∷ []) (n ∷ []))) ≡ Ok (command.RestIter s n)
rest_iter_line verb word s n one rest two is below fit =
    rest_line One verb word (s ∷ []) (n ∷ []) one rest two is below fit
    ∙ rw (name_of-letter s (All-head (λ s. s < 16) s [] below), number_of-decimal n (All-head (λ m. m ≤ greatest) n [] fit), all_fit (n ∷ []) fit)

rest_two_line : (merge : Merge) (verb word : List ℕ) (s t n : ℕ) → IsOneWord verb → usage_of verb ≡ Some WalkAndItsWords → IsOneWord word → walk_of word ≡ Some (Two merge) → AreNames (s ∷ t ∷ []) → AreFit (n ∷ []) → reading (verb ++ 32 ∷ (spelled word (s ∷ t ∷ []) (n ∷ []))) ≡ Ok (command.RestWalk merge s t n)
rest_two_line merge verb word s t n one rest two is below fit =
    let second : t < 16 = All-head (λ s. s < 16) t [] (All-tail (λ s. s < 16) s (t ∷ []) below) in
    rest_line (Two merge) verb word (s ∷ t ∷ []) (n ∷ []) one rest two is below fit
    ∙ rw (name_of-letter s (All-head (λ s. s < 16) s (t ∷ []) below), name_of-letter t second, number_of-decimal n (All-head (λ m. m ≤ greatest) n [] fit), all_fit (n ∷ []) fit)

split_off_line : (word : List ℕ) (s n t : ℕ) → IsOneWord word → usage_of word ≡ Some (NamesAroundNumber command.SplitOff) → AreNames (s ∷ t ∷ []) → AreFit (n ∷ []) → reading (word ++ (letter s ++ (figures n ++ letter t))) ≡ Ok (command.SplitOff s n t)
split_off_line word s n t plain is below fit =
    let last : t < 16 = All-head (λ s. s < 16) t [] (All-tail (λ s. s < 16) s (t ∷ []) below) in
    rw (
      parts_at-first 32 word ((s + 97) ∷ (figures n ++ letter t)) (lacks_by_test 32 word plain),
      parts_at-first 32 ((s + 97) ∷ []) (decimal n ++ letter t) (one_byte (s + 97) (λ e. absurd (omega arith))),
      words_of-line (decimal n) (t ∷ []) [] (decimal_lacks n (All-head (λ m. m ≤ greatest) n [] fit)) (All-tail (λ s. s < 16) s (t ∷ []) below) (All-nil (λ m. m ≤ greatest)),
      is,
      name_of-letter s (All-head (λ s. s < 16) s (t ∷ []) below),
      name_of-letter t last,
      number_of-decimal n (All-head (λ m. m ≤ greatest) n [] fit),
      all_fit (n ∷ []) fit,
    )

pub reading-line_of : (c : Command) → CanBeHad c → reading (line_of c) ≡ Ok c
reading-line_of (command.Insert s n) had = number_line command.Insert (codes "insert") s n refl refl refl had.names had.numbers
reading-line_of (command.Remove s n) had = number_line command.Remove (codes "remove") s n refl refl refl had.names had.numbers
reading-line_of (command.Contains s n) had = number_line command.Contains (codes "contains") s n refl refl refl had.names had.numbers
reading-line_of (command.Extend s ns) had = extend_line (codes "extend") s ns refl refl had.names had.numbers
reading-line_of (command.Truncate s n) had = number_line command.Truncate (codes "truncate") s n refl refl refl had.names had.numbers
reading-line_of (command.Empty s) had = name_line command.Empty (codes "empty") s refl refl refl had.names
reading-line_of (command.Reset s) had = name_line command.Reset (codes "reset") s refl refl refl had.names
reading-line_of (command.Reserve s n) had = number_line command.Reserve (codes "reserve") s n refl refl refl had.names had.numbers
reading-line_of (command.ReserveExact s n) had = number_line command.ReserveExact (codes "reserve_exact") s n refl refl refl had.names had.numbers
reading-line_of (command.Shrink s) had = name_line command.Shrink (codes "shrink") s refl refl refl had.names
reading-line_of (command.Count s) had = name_line command.Count (codes "count") s refl refl refl had.names
reading-line_of (command.IsEmpty s) had = name_line command.IsEmpty (codes "is_empty") s refl refl refl had.names
reading-line_of (command.Items s) had = name_line command.Items (codes "items") s refl refl refl had.names
reading-line_of (command.Copy s t) had = pair_line command.Copy (codes "copy") s t refl refl refl had.names
reading-line_of (command.InPlace Union s t) had = pair_line (command.InPlace Union) (codes "union_with") s t refl refl refl had.names
reading-line_of (command.InPlace Intersection s t) had = pair_line (command.InPlace Intersection) (codes "intersect_with") s t refl refl refl had.names
reading-line_of (command.InPlace Difference s t) had = pair_line (command.InPlace Difference) (codes "difference_with") s t refl refl refl had.names
reading-line_of (command.InPlace Symmetric s t) had = pair_line (command.InPlace Symmetric) (codes "symmetric_difference_with") s t refl refl refl had.names
reading-line_of (command.Append s t) had = pair_line command.Append (codes "append") s t refl refl refl had.names
reading-line_of (command.SplitOff s n t) had = split_off_line (codes "split_off") s n t refl refl had.names had.numbers
reading-line_of (command.Walk Union s t) had = pair_line (command.Walk Union) (codes "union") s t refl refl refl had.names
reading-line_of (command.Walk Intersection s t) had = pair_line (command.Walk Intersection) (codes "intersection") s t refl refl refl had.names
reading-line_of (command.Walk Difference s t) had = pair_line (command.Walk Difference) (codes "difference") s t refl refl refl had.names
reading-line_of (command.Walk Symmetric s t) had = pair_line (command.Walk Symmetric) (codes "symmetric_difference") s t refl refl refl had.names
reading-line_of (command.Subset s t) had = pair_line command.Subset (codes "subset") s t refl refl refl had.names
reading-line_of (command.Superset s t) had = pair_line command.Superset (codes "superset") s t refl refl refl had.names
reading-line_of (command.Disjoint s t) had = pair_line command.Disjoint (codes "disjoint") s t refl refl refl had.names
reading-line_of (command.Equal s t) had = pair_line command.Equal (codes "eq") s t refl refl refl had.names
reading-line_of (command.Compare s t) had = pair_line command.Compare (codes "cmp") s t refl refl refl had.names
reading-line_of (command.RestIter s n) had = rest_iter_line (codes "rest") (codes "iter") s n refl refl refl refl had.names had.numbers
reading-line_of (command.RestWalk Union s t n) had = rest_two_line Union (codes "rest") (codes "union") s t n refl refl refl refl had.names had.numbers
reading-line_of (command.RestWalk Intersection s t n) had = rest_two_line Intersection (codes "rest") (codes "intersection") s t n refl refl refl refl had.names had.numbers
reading-line_of (command.RestWalk Difference s t n) had = rest_two_line Difference (codes "rest") (codes "difference") s t n refl refl refl refl had.names had.numbers
reading-line_of (command.RestWalk Symmetric s t n) had = rest_two_line Symmetric (codes "rest") (codes "symmetric_difference") s t n refl refl refl refl had.names had.numbers
