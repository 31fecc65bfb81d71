use Rattle.std.proofs.Common.{◌≤◌, ◌≡◌, ◌+◌, ◌*◌, ◌-◌, ap, arith}
use Rattle.bit_words.proofs.RangeQueryLemmas.{zeros_below, zeros_of_block}
use Rattle.bit_words.proofs.bit_vec.BitVec.zeros_in_block.Goals as goal

pub returns-then-below-bits-clause-digits : goal.returns-then-below-bits-clause-digits
returns-then-below-bits-clause-digits g c =
    let w = g.B.BitBlock.width in
    let product = ap (λ n. c.args.k * n) c.bits.ensures in
    let on : c.args.k * w + w ≤ c.args.end = omega (arith, product, c.bits-2.ensures, c.if-below-bits.true, c.requires) in
    zeros_of_block w c.args.k c.args.end _ _ _ _ c.storage.ensures.numbers c.block_or_zero.ensures.of_number c.block_not-zeros.ensures.of_digits on

pub returns-clause-digits : goal.returns-clause-digits
returns-clause-digits g c =
    let w = g.B.BitBlock.width in
    let product = ap (λ n. c.args.k * n) c.bits.ensures in
    let to : c.args.end - c.args.k * c.bits.result + c.args.k * w ≡ c.args.end = omega (arith, product, c.requires) in
    zeros_below w c.args.k c.args.end _ _ _ _ _ _ c.storage.ensures.numbers c.block_or_zero.ensures.of_number c.block_not-zeros.ensures.of_digits to c.with_zeros_from.ensures.digits
