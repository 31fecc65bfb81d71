use Rattle.std.proofs.Common.{◌∙◌, sym}
use Rattle.bit_blocks.proofs.MismatchLemmas.{some_moved, none_moved, on_mismatch, on_alike}
use Rattle.bit_blocks.proofs.packed.nonzero.has_one_from.Goals as goal

pub returns : goal.returns
returns g c =
    let law = g.met.B.BitBlock in
    let zero = c.zero.ensures.of_number in
    let moved = c.shift_right.ensures.of_digits in
    record {
      some = on_mismatch _ _ c.same.result _ c.same.ensures
          (λ mismatch. some_moved _ _ _ _ (law.number_law c.shift_right.result c.shift_right.ensures.of_block).0 moved
          (λ none. mismatch (none ∙ sym zero)));
      none = on_alike _ _ c.same.result _ c.same.ensures (λ alike. none_moved _ _ _ _ (law.number_law c.args.block c.requires.of_block).0 moved (alike ∙ zero));
    }
