use Rattle.bit_set_commands.proofs.LineLemmas.{lines_of-are, lines_of-only}
use Rattle.bit_set_commands.proofs.laws.lines_are_unique.Goals as goal

pub returns-clause-are : goal.returns-clause-are
returns-clause-are c = lines_of-are

pub returns-clause-only : goal.returns-clause-only
returns-clause-only c = lines_of-only
