use Rattle.std.proofs.Common.{length}
use Rattle.bit_set_run.proofs.StreamLemmas.{HasSent}
use Rattle.bit_set_run.proofs.streams.write_output.Given as goal

abbrev pub invariant-loop-rest : goal.invariant-loop-rest
invariant-loop-rest g l = HasSent (g.W.Write.contents l.fn.writer) (g.W.Write.contents l.writer) l.text l.rest

abbrev pub decreases-loop-rest : goal.decreases-loop-rest
decreases-loop-rest g l = length l.rest
