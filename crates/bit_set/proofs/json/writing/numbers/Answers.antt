use Rattle.std.proofs.{Common.{◌≡◌, arith, subst, sym, take, take_all}, lemmas.{Grind.common_steps, List.Elements.All-get_or}}
use Rattle.bit_set.proofs.json.writing.numbers.Goals as goal

pub to_number-requires : goal.to_number-requires
to_number-requires g c =
    let is = g.B.BitBlock.is_block in
    subst is (sym c.block-item.is) (All-get_or is c.args.blocks.now c.loop-block.block-index c.block-item.result c.loop-block-test.true c.requires)

pub loop-block-preserved : goal.loop-block-preserved
loop-block-preserved g c = grind (arith, common_steps)

pub returns : goal.returns
returns g c =
    let all : take c.loop-block.block-index c.args.blocks.now ≡ c.args.blocks.now = take_all _ _ c.loop-block-test.false in
    rw all at c.loop-block.invariant
