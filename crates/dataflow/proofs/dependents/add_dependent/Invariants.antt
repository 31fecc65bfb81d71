use Rattle.std.proofs.Common.{take}
use Rattle.dataflow.specs.Worklist.{AddsDependent, rows_of}
use Rattle.dataflow.proofs.dependents.add_dependent.Given as goal

abbrev pub invariant-loop-source : goal.invariant-loop-source
invariant-loop-source l = AddsDependent (take l.source-index l.sources) l.number (rows_of l.fn.rows) (rows_of l.rows)
