use Rattle.std.proofs.{Common.{length, arith}, lemmas.{Bool.{eqb-true, Decides.nat_tests}, List.{get_or_past, length-map}}}
use Rattle.bit_blocks.proofs.{VectorLemmas.all_zero_map, ZeroLemmas.all_zero}
use Rattle.bit_blocks.proofs.packed.zeros.are_zero.Goals as goal

pub returns : goal.returns
returns g c =
    let number = g.B.BitBlock.number in
    let xs = c.args.blocks.now in
    let count = c.zeros_before.result in (
      λ all. all_zero g.B.BitBlock.width number g.B.BitBlock.is_block xs (λ k. grind (arith, eqb-true count (length xs) all, c.zeros_before.ensures.zeros k, get_or_past, length-map)),
      λ zeros. grind (arith, nat_tests, c.zeros_before.ensures, all_zero_map number xs zeros count),
    )
