use Rattle.bit_set_commands.proofs.CutLemmas.{parts_at-first, parts_at-one}
use Rattle.bit_set_commands.proofs.cutting.first_word.Goals as goal

pub returns-in-Some-clause-words : goal.returns-in-Some-clause-words
returns-in-Some-clause-words c = rw c.in-Some.ensures.joined (parts_at-first 32 c.in-Some.word.now c.in-Some.rest.now c.in-Some.ensures.first)

pub returns-in-None-clause-words : goal.returns-in-None-clause-words
returns-in-None-clause-words c = parts_at-one 32 c.args.text.now c.in-None.ensures.whole
