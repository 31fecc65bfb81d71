use Rattle.std.proofs.{Common.{◌/◌, ◌^◌, ◌==◌, ap}, lemmas.Nat.and_mask}
use Rattle.bit_blocks.proofs.block.operators.has_one_at.Goals as goal

pub returns : goal.returns
returns g c =
    rw (c.same.ensures, c.block_and.ensures.of_number, c.shift_right.ensures.of_number, c.one.ensures.of_number, c.one-2.ensures.of_number)
    (ap (λ m. m == 1) (and_mask (g.B.BitBlock.number c.args.a / 2 ^ c.args.index) 1))
