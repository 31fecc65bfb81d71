use Rattle.std.proofs.{Common.{◌++◌, append-nil, refl, sym, ap, ◌∙◌, arith}, lemmas.List.take_all}
use Rattle.bit_blocks.proofs.PackedLemmas.{block_pushed}
use Rattle.bit_blocks.proofs.packed.copies.with_blocks.Goals as goal

pub loop-block-preserved : goal.loop-block-preserved
loop-block-preserved g c = record {
  items = block_pushed _ c.args.more.now _ _ c.loop-block.block-index c.block-item.result c.loop-block-test.true c.block-item.is c.loop-block.invariant.items c.push_reserved.ensures.items;
  count = omega arith;
  capacity = c.push_reserved.ensures.capacity ∙ c.loop-block.invariant.capacity;
}

pub returns : goal.returns
returns g c = record {
  items = c.loop-block.invariant.items ∙ ap (λ xs. c.args.blocks.items ++ xs) (take_all c.loop-block.block-index c.args.more.now c.loop-block-test.false);
  len = omega arith;
  capacity = c.loop-block.invariant.capacity;
}

pub push_reserved-requires : goal.push_reserved-requires
push_reserved-requires g c = omega arith

pub loop-block-init : goal.loop-block-init
loop-block-init g c = record { items = sym (append-nil c.args.blocks.items); count = omega arith; capacity = refl }
