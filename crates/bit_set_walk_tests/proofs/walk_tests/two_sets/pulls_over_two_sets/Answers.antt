use Rattle.std.proofs.Common.{◌≡◌, ◌≤◌, max, length, ap, ◌∙◌, arith}
use Rattle.bit_blocks.specs.Bits.{blocks_for}
use Rattle.bit_set_walk_tests.proofs.walk_tests.two_sets.pulls_over_two_sets.Goals as goal

pub returns-clause-wide : goal.returns-clause-wide
returns-clause-wide c = λ a b s t items first second left start run.
    let sixteen : blocks_for 32 (length a) ≡ 16 = ap (blocks_for 32) first in
    let seven : blocks_for 32 (length b) ≡ 7 = ap (blocks_for 32) second in
    let pulls = (c.whole_walks_over_two_sets.ensures.difference.whole a b s t items left start run).1 in
    omega (arith, pulls, sixteen, seven)

pub returns-clause-narrow : goal.returns-clause-narrow
returns-clause-narrow c = λ a b s t items first second left start run.
    let pulls = (c.whole_walks_over_two_sets.ensures.union.whole a b s t items left start run).1 in
    omega (arith, pulls, first, second)
