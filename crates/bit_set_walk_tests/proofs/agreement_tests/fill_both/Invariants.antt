use Rattle.std.proofs.Common.{◌≡◌}
use Rattle.bit_set.specs.Sets.{elements}
use Rattle.bit_set_walk_tests.proofs.agreement_tests.fill_both.Given as goal

abbrev pub invariant-loop-value : goal.invariant-loop-value
invariant-loop-value g l = elements l.a.values ≡ elements l.b.values
