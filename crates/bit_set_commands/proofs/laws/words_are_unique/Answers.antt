use Rattle.bit_set_commands.proofs.CutLemmas.{parts_at-are, parts_at-only}
use Rattle.std.proofs.Common.{sym}
use Rattle.bit_set_commands.proofs.laws.words_are_unique.Goals as goal

pub returns-clause-are : goal.returns-clause-are
returns-clause-are c line =
    let parts = parts_at-are 32 line in record { some = parts.0; whole = parts.1; joined = parts.2 }

pub returns-clause-only : goal.returns-clause-only
returns-clause-only c line words are = sym (parts_at-only 32 line words are.some are.whole are.joined)
