use Rattle.std.proofs.Common.{arith}
use Rattle.bit_blocks.proofs.BlockMergeLemmas.{zeros_same}
use Rattle.bit_blocks.proofs.packed.zeros.zeros_before.Goals as goal

pub loop-k-init : goal.loop-k-init
loop-k-init g c = λ k below.
    zeros_same g.B.BitBlock.width g.B.BitBlock.number g.B.BitBlock.is_block 0 _ c.args.blocks.now
    (λ x block. (g.met.B.BitBlock.number_law x block).0) c.requires.each c.differing_group-groups.ensures.same k
    (omega arith) (omega (arith, below))
