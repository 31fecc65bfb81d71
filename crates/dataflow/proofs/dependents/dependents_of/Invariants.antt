use Rattle.std.proofs.Common.{map}
use Rattle.dataflow.{specs.Worklist.rows_of, proofs.DependentLemmas.Depends}
use Rattle.dataflow.proofs.dependents.dependents_of.Given as goal

abbrev pub invariant-loop-number : goal.invariant-loop-number
invariant-loop-number g l = Depends (map g.N.Block.flow l.blocks) l.number (rows_of l.rows.items)
