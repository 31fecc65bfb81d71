use Rattle.std.proofs.Common.{arith}
use Rattle.bit_blocks.proofs.BlockMergeLemmas.{same_before, same_numbers}
use Rattle.bit_blocks.proofs.packed.comparing.first_mismatching_block.Goals as goal

pub mismatch_between-found-requires-clause-before : goal.mismatch_between-found-requires-clause-before
mismatch_between-found-requires-clause-before g c = λ k below.
    let f = g.B.BitBlock.number in
    let xs = c.args.a.now in
    let before = same_before g.B.BitBlock.width f c.min-both.result _ xs _ c.differing_place.ensures in
    (same_numbers g.B.BitBlock.width f g.B.BitBlock.is_block 0 _ xs c.args.b.now
    (λ x block. (g.met.B.BitBlock.number_law x block).0) c.requires.left c.requires.right).0 before k (omega arith)
    (rw c.unwrap_or-start.ensures at below)
