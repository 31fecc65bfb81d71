use Rattle.std.{specs.Option.option_map_or, proofs.Common.{◌≡◌, ◌+◌, length}}
use Rattle.bit_set_commands.{specs.{Reading.{all_numbers, within_range}, Words.words_left}, proofs.ReadingLemmas.told}
use Rattle.bit_set_commands.proofs.reading.read_numbers.Given as goal

abbrev pub invariant-words : goal.invariant-words
invariant-words l = told l.numbers.items l.too_large (all_numbers (words_left l.rest)) ≡ within_range (λ ns. ns) (all_numbers (words_left l.fn.words))

abbrev pub decreases-words : goal.decreases-words
decreases-words l = option_map_or (λ text. length text.now + 1) l.rest 0
