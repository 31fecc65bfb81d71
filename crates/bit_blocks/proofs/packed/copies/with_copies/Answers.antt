use Rattle.std.proofs.{Common.{vec_len, arith, ◌∙◌, ◌≡◌, ◌-◌, refl, append-nil}, lemmas.List.Elements.{All-same, All-push}}
use Rattle.bit_blocks.proofs.PackedLemmas.{copy_pushed}
use Rattle.bit_blocks.proofs.packed.copies.with_copies.Goals as goal

pub loop-init : goal.loop-init
loop-init g c =
    let none : c.len-counter.result - vec_len c.args.blocks ≡ 0 = omega arith in
    record { numbers = rw (none, append-nil); each = c.requires.each; count = omega arith; capacity = refl }

pub loop-preserved : goal.loop-preserved
loop-preserved g c = record {
  numbers = copy_pushed g.B.BitBlock.number _ _ _ (vec_len c.args.blocks) c.loop.counter _ (omega arith) c.loop.invariant.numbers c.push_reserved.ensures.items;
  each = All-same g.B.BitBlock.is_block _ _ c.push_reserved.ensures.items (All-push g.B.BitBlock.is_block _ _ c.loop.invariant.each c.requires.of_block);
  count = omega arith;
  capacity = c.push_reserved.ensures.capacity ∙ c.loop.invariant.capacity;
}

pub loop-smaller : goal.loop-smaller
loop-smaller g c = omega arith

pub push_reserved-requires : goal.push_reserved-requires
push_reserved-requires g c = omega arith

pub returns-clause-numbers : goal.returns-clause-numbers
returns-clause-numbers g c =
    let end : c.loop.counter ≡ c.args.count = omega arith in
    rw end at c.loop.invariant.numbers

pub returns-clause-has : goal.returns-clause-has
returns-clause-has g c = record { each = c.loop.invariant.each; len = omega arith; capacity = c.loop.invariant.capacity }
