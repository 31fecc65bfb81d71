use Rattle.std.proofs.Common.{length, ap, ◌∙◌, arith}
use Rattle.bit_blocks.proofs.SearchLemmas.{none_used, first_used_is}
use Rattle.bit_blocks.proofs.packed.searching.first_used.Goals as goal

pub returns-then-zeros-rest : goal.returns-then-zeros-rest
returns-then-zeros-rest g c =
    none_used g.B.BitBlock.number c.args.blocks.now c.args.from _ (rw c.split_at.ensures.back at c.zeros_before-zeros.ensures.zeros) (c.if-zeros-rest.true ∙ ap length c.split_at.ensures.back)

pub returns : goal.returns
returns g c =
    first_used_is g.B.BitBlock.number c.args.blocks.now c.args.from _ (rw c.split_at.ensures.back at c.zeros_before-zeros.ensures.zeros)
    (rw c.split_at.ensures.back at (c.zeros_before-zeros.ensures.end (omega (arith, c.zeros_before-zeros.ensures.within, c.if-zeros-rest.false))))
