use Rattle.std.proofs.Common.{◌*◌, map}
use Rattle.bit_blocks.specs.BlockMerges.{MergesSpanToFalse}
use Rattle.bit_blocks.proofs.packed.span_queries.ones_merge_to_zero.Given as goal

abbrev pub invariant-loop-k : goal.invariant-loop-k
invariant-loop-k g l = MergesSpanToFalse g.O.Operation.merge g.B.BitBlock.width (l.first * g.B.BitBlock.width) (l.k * g.B.BitBlock.width) (map g.B.BitBlock.number l.blocks)
