use Rattle.std.proofs.Common.{◌/◌, map, arith, div-add-mod', mod-lt}
use Rattle.bit_blocks.proofs.SearchLemmas.{first_past_block, none_past_block}
use Rattle.bit_blocks.proofs.packed.searching.first_one.Goals as goal

pub returns-in_err-k : goal.returns-in_err-k
returns-in_err-k g c =
    let w = g.B.BitBlock.width in
    rw c.from_residual.ensures (none_past_block w (map g.B.BitBlock.number c.args.blocks.now) c.args.from
    (c.args.from / w) g.met.B.BitBlock.width_law.positive c.in_default.ensures (rw c.block_index.ensures at c.in_err-k.ensures))

pub returns : goal.returns
returns g c =
    let w = g.B.BitBlock.width in
    let pos = g.met.B.BitBlock.width_law.positive in
    first_past_block w (map g.B.BitBlock.number c.args.blocks.now) c.args.from (c.args.from / w) pos _ c.in_default.ensures
    (omega (arith, div-add-mod' c.args.from w, mod-lt c.args.from pos)) _
    (rw c.block_index.ensures at c.in_ok-k.ensures) c.first_of_block.ensures
