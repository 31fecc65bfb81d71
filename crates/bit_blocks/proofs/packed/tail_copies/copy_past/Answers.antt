use Rattle.std.proofs.{Common.{◌∙◌, arith}, lemmas.{List.Elements.All-nil, Result.IfOk-weaker}}
use Rattle.bit_blocks.proofs.TailLemmas.{tail_copied, tail_each}
use Rattle.bit_blocks.proofs.packed.tail_copies.copy_past.Goals as goal

pub push_copies-requires-clause-more : goal.push_copies-requires-clause-more
push_copies-requires-clause-more g c = omega (arith, c.in_ok-copy.ensures.len)

pub push_copies-requires-clause-capacity : goal.push_copies-requires-clause-capacity
push_copies-requires-clause-capacity g c = omega (arith, c.in_ok-copy.ensures.capacity, c.requires.within)

pub push_copies-requires-clause-each : goal.push_copies-requires-clause-each
push_copies-requires-clause-each g c = rw c.in_ok-copy.ensures.items (All-nil g.B.BitBlock.is_block)

pub returns-clause-numbers : goal.returns-clause-numbers
returns-clause-numbers g c =
    IfOk-weaker c.filled_with.result _ _
    (λ filled items. tail_copied g.B.BitBlock.number c.args.blocks.now _ c.push_copies.new.blocks.items _ c.args.count _ _
    c.in_ok-copy.ensures.items c.in_ok-copy.ensures.len c.zero.ensures.of_number c.push_copies.ensures.numbers items)
    c.filled_with.ensures.items

pub returns-clause-each : goal.returns-clause-each
returns-clause-each g c =
    IfOk-weaker c.filled_with.result _ _
    (λ filled items. tail_each g.B.BitBlock.is_block c.args.blocks.now c.push_copies.new.blocks.items _ c.args.count c.requires.each c.push_copies.ensures.each items)
    c.filled_with.ensures.items

pub returns-clause-len : goal.returns-clause-len
returns-clause-len g c =
    IfOk-weaker c.filled_with.result _ _ (λ filled is. is ∙ c.push_copies.ensures.capacity ∙ c.in_ok-copy.ensures.exact) c.filled_with.ensures.len

pub returns-clause-capacity : goal.returns-clause-capacity
returns-clause-capacity g c =
    IfOk-weaker c.filled_with.result _ _ (λ filled is. is ∙ c.push_copies.ensures.capacity ∙ c.in_ok-copy.ensures.exact) c.filled_with.ensures.capacity
