use Rattle.std.proofs.{Common.{◌≡◌, map, length, arith}, lemmas.List.length-map}
use Rattle.bit_blocks.proofs.PackedLemmas.{whole_filled, cut_filled}
use Rattle.bit_blocks.proofs.packed.resizing.fill_ones.Goals as goal

pub returns-then-index-ne0-clause-values : goal.returns-then-index-ne0-clause-values
returns-then-index-ne0-clause-values g c =
    let f = g.B.BitBlock.number in
    let size : length (map f c.fill_blocks.new.blocks.items) ≡ length (map f c.args.blocks.now.items) = rw (length-map, length-map) (omega arith) in
    cut_filled _ _ _ _ c.args.len _ _ g.met.B.BitBlock.width_law.positive (rw length-map (omega arith)) size (omega arith) c.all_ones.ensures.of_number
    (rw c.block_index-whole.ensures at c.fill_blocks.ensures.fills)
    (rw c.bit_index-index.ensures.value at c.ones_below.ensures.of_number)
    (rw c.block_index-whole.ensures at c.put_block.ensures.numbers)

pub returns-else-index-ne0-clause-values : goal.returns-else-index-ne0-clause-values
returns-else-index-ne0-clause-values g c =
    whole_filled _ _ _ c.args.len _ g.met.B.BitBlock.width_law.positive (rw length-map (omega arith))
    (omega arith) c.all_ones.ensures.of_number (rw c.block_index-whole.ensures at c.fill_blocks.ensures.fills)
