use Rattle.std.proofs.Common.{arith}
use Rattle.bit_set.proofs.{WalkLemmas.All-pulled, PairLemmas.both_pulled}
use Rattle.bit_set.proofs.walk.merged_blocks.Pairs.pull_with_kind.Goals as goal

pub merge_of_blocks-block-requires-clause-first : goal.merge_of_blocks-block-requires-clause-first
merge_of_blocks-block-requires-clause-first g c =
    (All-pulled g.B.BitBlock.is_block c.self.inside.first.left c.next-first.new.self.left c.next-first.result c.self.invariant.0 c.next-first.ensures.steps.item).0

pub merge_of_blocks-block-requires-clause-second : goal.merge_of_blocks-block-requires-clause-second
merge_of_blocks-block-requires-clause-second g c =
    (All-pulled g.B.BitBlock.is_block c.self.inside.second.left c.next-second.new.self.left c.next-second.result c.self.invariant.1 c.next-second.ensures.steps.item).0

pub returns-clause-steps : goal.returns-clause-steps
returns-clause-steps g c =
    let it = c.self.inside in
    rw (← c.self.view_is) (both_pulled g.B.BitBlock.width g.B.BitBlock.number g.O.Operation.merge it.first.left c.next-first.new.self.left it.second.left
    c.next-second.new.self.left it.first.pulls c.next-first.new.self.pulls c.next-first.result c.next-second.result c.merge_of_blocks-block.result
    c.next-first.ensures.steps.item c.next-second.ensures.steps.item c.merge_of_blocks-block.ensures.merged c.next-first.ensures.steps.counted)

pub invariant_of-self : goal.invariant_of-self
invariant_of-self g c =
    let is = g.B.BitBlock.is_block in
    let it = c.self.inside in (
      (All-pulled is it.first.left c.next-first.new.self.left c.next-first.result c.self.invariant.0 c.next-first.ensures.steps.item).1,
      (All-pulled is it.second.left c.next-second.new.self.left c.next-second.result c.self.invariant.1 c.next-second.ensures.steps.item).1,
      omega (arith, c.self.invariant.2, c.next-first.ensures.steps.counted, c.next-second.ensures.steps.counted),
    )
