use Rattle.dataflow.{specs.Flow.lists_of, proofs.AvailabilityLemmas.IsComplementedBelow}
use Rattle.dataflow.proofs.expressions.complement_each.Given as goal

abbrev pub invariant-loop-index : goal.invariant-loop-index
invariant-loop-index g l = IsComplementedBelow l.count l.index (lists_of l.fn.sets) (lists_of l.sets)
