use Rattle.std.proofs.Common.{arith}
use Rattle.bit_words.proofs.CapacityLemmas.{shared_tests}
use Rattle.bit_words.proofs.summary.shared_capacity.have_capacity.Goals as goal

pub returns-then-count-capacity-clause-yes : goal.returns-then-count-capacity-clause-yes
returns-then-count-capacity-clause-yes g c = grind (arith, shared_tests)

pub returns-then-count-capacity-clause-no : goal.returns-then-count-capacity-clause-no
returns-then-count-capacity-clause-no g c = grind (arith, shared_tests)
