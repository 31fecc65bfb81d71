use Rattle.std.proofs.Common.{◌≡◌}
use Rattle.bit_set_tests.proofs.capacity_tests.put_all_within.Given as goal

abbrev pub invariant-loop-value : goal.invariant-loop-value
invariant-loop-value g l = l.set.capacity ≡ l.fn.set.capacity
