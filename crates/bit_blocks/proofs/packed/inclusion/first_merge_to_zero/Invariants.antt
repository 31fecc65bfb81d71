use Rattle.std.proofs.Common.{map}
use Rattle.bit_blocks.specs.BlockMerges.{MergesToZero}
use Rattle.bit_blocks.proofs.packed.inclusion.first_merge_to_zero.Given as goal

abbrev pub invariant-loop-k : goal.invariant-loop-k
invariant-loop-k g l = MergesToZero g.O.Operation.merge g.B.BitBlock.width (map g.B.BitBlock.number l.blocks) (map g.B.BitBlock.number l.others) l.k
