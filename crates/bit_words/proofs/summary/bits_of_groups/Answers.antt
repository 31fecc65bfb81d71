use Rattle.std.proofs.Common.{◌≡◌, ◌+◌, ◌*◌, refl, arith}
use Rattle.bit_words.proofs.UsedLemmas.{says_group}
use Rattle.bit_words.proofs.summary.bits_of_groups.Goals as goal

pub loop-group-preserved : goal.loop-group-preserved
loop-group-preserved g c =
    says_group _ _ _ c.args.start (c.args.start + c.loop-group.group * 8) (c.loop-group.group * 8) 8 _ _ _ _ _ _ refl
    (omega arith) c.loop-group.invariant c.used_bits-more.ensures c.shift_left.ensures.of_digits c.block_or-digits.ensures.of_digits c.block_or-digits.ensures.of_block

pub used_bits-more-requires-clause-in_bounds : goal.used_bits-more-requires-clause-in_bounds
used_bits-more-requires-clause-in_bounds g c = omega arith

pub returns : goal.returns
returns g c = let end : c.loop-group.group ≡ c.args.groups = omega arith in rw end at c.loop-group.invariant
