use Rattle.std.proofs.Common.{length}
use Rattle.bit_set.specs.Sets.{elements}
use Rattle.bench_calls.proofs.ranges.take_each.Given as goal

abbrev pub decreases-loop-value : goal.decreases-loop-value
decreases-loop-value l = length (elements l.set.values)
