use Rattle.bit_set_commands.proofs.{CutLemmas.{parts_at-first, parts_at-one}, ReadingLemmas.rest_of-alone}
use Rattle.bit_set_commands.proofs.reading.read_rest.Goals as goal

pub returns-in_default : goal.returns-in_default
returns-in_default c = rw (parts_at-one 32 c.args.words.now c.in_default.ensures.whole, rest_of-alone c.args.words.now)

pub returns-in-None : goal.returns-in-None
returns-in-None c = rw (c.in-Some.ensures.joined, parts_at-first 32 c.in-Some.walk.now c.in-Some.words.now c.in-Some.ensures.first, ← c.in-None.ensures)

pub returns-in-Some-walk_of : goal.returns-in-Some-walk_of
returns-in-Some-walk_of c =
    rw (c.in-Some.ensures.joined, parts_at-first 32 c.in-Some.walk.now c.in-Some.words.now c.in-Some.ensures.first, ← c.in-Some-walk_of.ensures)
    c.read_walk.ensures
