use Rattle.bit_set_commands.proofs.SpellingLemmas.{reading-line_of}
use Rattle.bit_set_commands.proofs.laws.commands_are_read_back.Goals as goal

pub returns : goal.returns
returns c = reading-line_of
