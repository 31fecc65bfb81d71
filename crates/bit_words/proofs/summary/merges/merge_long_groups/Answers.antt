use Rattle.std.proofs.Common.{◌≡◌, ◌+◌, ◌*◌, refl, arith}
use Rattle.bit_blocks.proofs.BlockMergeLemmas.{merged_more}
use Rattle.bit_words.proofs.UsedLemmas.{says_group, says_kept}
use Rattle.bit_words.proofs.summary.merges.merge_long_groups.Goals as goal

pub loop-group-preserved : goal.loop-group-preserved
loop-group-preserved g c =
    let start = c.args.start in
    let index = c.loop-group.group * 32 in
    let some = c.merge_group-more.ensures.has in
    record {
      has = merged_more _ _ _ _ start (start + index) (start + (c.loop-group.group + 1) * 32) (start + index)
          (start + index + 32) _ _ _ _ (omega arith) (omega arith) refl (omega arith) c.loop-group.invariant.has some;
      says = says_group _ _ _ start (start + index) index 32 _ _ _ _ _ _ refl (omega arith)
          (says_kept _ _ _ start index _ _ _ some.before c.loop-group.invariant.says) c.merge_group-more.ensures.says
          c.shift_left.ensures.of_digits c.block_or-digits.ensures.of_digits c.block_or-digits.ensures.of_block;
    }

pub merge_group-more-requires-clause-can : goal.merge_group-more-requires-clause-can
merge_group-more-requires-clause-can g
    c = record { fewer = omega (arith, c.loop-group.invariant.has.len, c.requires.can.fewer); each = c.loop-group.invariant.has.each; others = c.requires.can.others }

pub returns-clause-has : goal.returns-clause-has
returns-clause-has g c = let end : c.loop-group.group ≡ c.args.groups = omega arith in rw end at c.loop-group.invariant.has

pub returns-clause-says : goal.returns-clause-says
returns-clause-says g c = let end : c.loop-group.group ≡ c.args.groups = omega arith in rw end at c.loop-group.invariant.says
