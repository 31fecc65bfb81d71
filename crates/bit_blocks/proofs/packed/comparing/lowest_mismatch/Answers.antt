use Rattle.bit_blocks.proofs.MismatchLemmas.{different_some, lowest_mismatch_is}
use Rattle.bit_blocks.proofs.packed.comparing.lowest_mismatch.Goals as goal

pub take_lowest_one-requires-clause-not_zero : goal.take_lowest_one-requires-clause-not_zero
take_lowest_one-requires-clause-not_zero g c =
    let law = g.met.B.BitBlock in
    different_some _ _ _ _ (law.number_law c.args.a c.requires.left).0 (law.number_law c.args.b c.requires.right).0 c.requires.mismatch c.block_xor-mismatch.ensures.of_digits

pub returns : goal.returns
returns g c = lowest_mismatch_is _ _ _ _ _ c.block_xor-mismatch.ensures.of_digits c.take_lowest_one.ensures.lowest c.take_lowest_one.ensures.within
