use Rattle.std.proofs.{Common.{◌≡◌, map, length, arith}, lemmas.List.length-map}
use Rattle.bit_blocks.proofs.PackedLemmas.{zeros_filled}
use Rattle.bit_blocks.proofs.packed.resizing.fill_zeros.Goals as goal

pub returns-clause-values : goal.returns-clause-values
returns-clause-values g c =
    let count : c.len.result ≡ length (map g.B.BitBlock.number c.args.blocks.now.items) = rw length-map (omega arith) in
    zeros_filled _ _ _ _ c.zero.ensures.of_number (rw count at c.fill_blocks.ensures.fills)
