use Rattle.bit_blocks.proofs.MismatchLemmas.{none_of_different, different_of_same}
use Rattle.bit_blocks.proofs.packed.comparing.or_mismatch.Goals as goal

pub returns-clause-none : goal.returns-clause-none
returns-clause-none g c =
    let law = g.met.B.BitBlock in
    let differ = c.block_xor.ensures.of_digits in (
      λ none. (
        (c.either.ensures.none.0 none).0,
        none_of_different _ _ _ _ (law.number_law c.args.a c.requires.left).0 (law.number_law c.args.b c.requires.right).0 differ (c.either.ensures.none.0 none).1,
      ),
      λ both. c.either.ensures.none.1 (both.0, different_of_same _ _ _ _ (law.number_law c.block_xor.result c.block_xor.ensures.of_block).0 differ both.1),
    )
