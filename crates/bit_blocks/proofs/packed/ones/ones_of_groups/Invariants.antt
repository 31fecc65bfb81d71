use Rattle.std.proofs.Common.{◌≡◌, ◌*◌, take}
use Rattle.bit_blocks.specs.Storage.{ones_in}
use Rattle.bit_blocks.proofs.packed.ones.ones_of_groups.Given as goal

abbrev pub invariant-loop-group : goal.invariant-loop-group
invariant-loop-group g l = l.ones ≡ ones_in g.B.BitBlock.number (take (l.group * 8) l.blocks)
