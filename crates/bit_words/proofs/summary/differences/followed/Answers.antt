use Rattle.std.proofs.Common.{◌≡◌, ◌∙◌, ap, arith}
use Rattle.bit_blocks.{specs.Digits.is_one, proofs.Masks.is_one-zero}
use Rattle.bit_words.proofs.summary.differences.followed.Goals as goal

pub returns-else-is_nonzero-clause-digits : goal.returns-else-is_nonzero-clause-digits
returns-else-is_nonzero-clause-digits g c = λ j index.
    let none : g.B.BitBlock.number c.of_blocks.result ≡ 0 = grind (arith, c.is_nonzero.ensures, c.if-is_nonzero.false) in
    let lacks = ap (λ n. is_one n j) none ∙ is_one-zero j in
    grind (arith, lacks, c.of_blocks.ensures.digits j index, c.of_blocks-taken.ensures.digits j index, c.of_blocks-else-is_nonzero.ensures.digits j index, c.requires.kept j index, c.requires.united j index)

pub returns-then-is_nonzero-clause-digits : goal.returns-then-is_nonzero-clause-digits
returns-then-is_nonzero-clause-digits g c = rw c.bits.ensures at c.used_from.ensures.digits
