use Rattle.bit_set_commands.proofs.ReadingLemmas.{reading-word, reading-words}
use Rattle.bit_set_commands.proofs.reading.read_line.Goals as goal

pub returns-in_default-clause-read : goal.returns-in_default-clause-read
returns-in_default-clause-read c = rw (reading-word c.args.line.now c.in_default.ensures.whole)

pub returns-in-Some-verb_of-clause-read : goal.returns-in-Some-verb_of-clause-read
returns-in-Some-verb_of-clause-read c =
    rw (c.in-Some.ensures.joined, reading-words c.in-Some.word.now c.in-Some.words.now c.in-Some.ensures.first, ← c.in-Some-verb_of.ensures)
    c.read_command.ensures.read

pub returns-in-None-clause-read : goal.returns-in-None-clause-read
returns-in-None-clause-read c =
    rw (c.in-Some.ensures.joined, reading-words c.in-Some.word.now c.in-Some.words.now c.in-Some.ensures.first, ← c.in-None.ensures)
