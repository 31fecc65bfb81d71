use Rattle.bit_set_run.proofs.StreamLemmas.{HasRead}
use Rattle.bit_set_run.proofs.streams.read_input.Given as goal

abbrev pub invariant-loop : goal.invariant-loop
invariant-loop g l = HasRead (g.R.Read.remaining l.fn.reader) (g.R.Read.remaining l.reader) l.input.items l.counter
