use Rattle.bit_set_commands.proofs.StrangeLemmas.{reading-empty_word, reading-strange_byte}
use Rattle.bit_set_commands.proofs.laws.strange_lines_are_bad_commands.Goals as goal

pub returns-clause-empty_word : goal.returns-clause-empty_word
returns-clause-empty_word c = reading-empty_word

pub returns-clause-strange_byte : goal.returns-clause-strange_byte
returns-clause-strange_byte c = reading-strange_byte
