use Rattle.std.proofs.Common.{◌+◌, ◌-◌, ◌*◌, ◌/◌, refl, arith}
use Rattle.bit_words.proofs.UsedLemmas.{says_group}
use Rattle.bit_words.proofs.summary.bits_from.Goals as goal

pub returns : goal.returns
returns g c =
    let whole = c.args.count / 8 * 8 in
    says_group _ _ _ c.args.start (c.args.start + whole) whole (c.args.count - whole) _ _ _ _ _ _ refl
    (omega arith) c.bits_of_groups-digits.ensures c.used_bits-rest.ensures c.shift_left.ensures.of_digits c.block_or.ensures.of_digits c.block_or.ensures.of_block

pub returns-then-count-eq-LONG_GROUP : goal.returns-then-count-eq-LONG_GROUP
returns-then-count-eq-LONG_GROUP g c = rw c.if-count-eq-LONG_GROUP.true c.used_bits.ensures

pub returns-then-index-count : goal.returns-then-index-count
returns-then-index-count g c = rw c.if-index-count.true at c.bits_of_groups-digits.ensures

pub used_bits-rest-requires-clause-in_bounds : goal.used_bits-rest-requires-clause-in_bounds
used_bits-rest-requires-clause-in_bounds g c = omega arith
