use Rattle.std.proofs.Common.{◌≡◌, max, length, ap, arith}
use Rattle.bit_blocks.specs.Bits.{blocks_for}
use Rattle.bit_set_walk_tests.proofs.walk_tests.pulls_at_401_places.Goals as goal

pub returns : goal.returns
returns c = λ values s t items long start run.
    let most = (c.whole_walks.ensures.whole values s t items start run).1 in
    let thirteen : max 1 (blocks_for 32 (length values)) ≡ 13 = ap (λ n. max 1 (blocks_for 32 n)) long in
    omega (arith, most, thirteen)
