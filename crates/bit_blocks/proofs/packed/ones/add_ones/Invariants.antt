use Rattle.std.proofs.Common.{◌≡◌, ◌+◌, take}
use Rattle.bit_blocks.specs.Storage.{ones_in}
use Rattle.bit_blocks.proofs.packed.ones.add_ones.Given as goal

abbrev pub invariant-loop-block : goal.invariant-loop-block
invariant-loop-block g l = l.ones ≡ l.before + ones_in g.B.BitBlock.number (take l.block-index l.blocks)
