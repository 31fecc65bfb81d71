use Rattle.bit_blocks.proofs.MismatchLemmas.{none_of_either, either_of_none}
use Rattle.bit_blocks.proofs.packed.comparing.either.Goals as goal

pub returns-clause-none : goal.returns-clause-none
returns-clause-none g c =
    let law = g.met.B.BitBlock in (
      none_of_either _ _ _ _ (law.number_law c.args.a c.requires.left).0 (law.number_law c.args.b c.requires.right).0 c.block_or.ensures.of_digits,
      λ both. either_of_none _ _ _ _ (law.number_law c.block_or.result c.block_or.ensures.of_block).0 c.block_or.ensures.of_digits both.0 both.1,
    )
