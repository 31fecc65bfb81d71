use Rattle.std.proofs.Common.{◌/◌, map, arith, div-add-mod'}
use Rattle.bit_blocks.proofs.SearchLemmas.{last_before_block, none_before_block}
use Rattle.bit_words.proofs.summary.searching.last_one_by_summary.Goals as goal

pub returns-in_err-k : goal.returns-in_err-k
returns-in_err-k g c =
    let w = g.B.BitBlock.width in
    rw c.from_residual.ensures
    (none_before_block w (map g.B.BitBlock.number c.args.blocks.now) c.args.end
    (c.args.end / w) g.met.B.BitBlock.width_law.positive c.in_default.ensures (rw c.block_index.ensures at c.in_err-k.ensures))

pub returns : goal.returns
returns g c =
    let w = g.B.BitBlock.width in
    last_before_block w (map g.B.BitBlock.number c.args.blocks.now) c.args.end (c.args.end / w) g.met.B.BitBlock.width_law.positive _ c.in_default.ensures
    (omega (arith, div-add-mod' c.args.end w)) _ (rw c.block_index.ensures at c.in_ok-k.ensures) c.last_of_block.ensures
