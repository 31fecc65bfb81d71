use Rattle.std.proofs.Common.{◌≡◌, ◌<◌, true, false, length, take}
use Rattle.bit_set.specs.Sets.{elements}
use Rattle.dataflow.specs.{Flow.lists_of, Worklist.Transfers}
use Rattle.dataflow.proofs.solver.transfer.Given as goal

-- what the sources so far have is in
abbrev pub invariant-loop-source : goal.invariant-loop-source
invariant-loop-source g l = record {
  transfers : Transfers (take l.source-index l.sources) (elements l.killed.values) (lists_of l.sets) (elements l.fn.into.values) (elements l.into.values);
  same : l.grew ≡ false → elements l.into.values ≡ elements l.fn.into.values;
  grew : l.grew ≡ true → length (elements l.fn.into.values) < length (elements l.into.values);
}
