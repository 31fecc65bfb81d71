use Rattle.std.proofs.{Common.{◌≡◌, ◌-◌, true, arith}, lemmas.Bool.Decides.nat_tests}
use Rattle.bit_blocks.specs.Digits.{is_one}
use Rattle.bit_words.proofs.{LastLemmas.first_reached, NextAtLemmas.first_most}
use Rattle.bit_words.proofs.bit_vec.pending.Pending.may_have.Goals as goal

pub returns-then-digit-bits-clause-left : goal.returns-then-digit-bits-clause-left
returns-then-digit-bits-clause-left g c past =
    let first = first_most (is_one (g.B.BitBlock.number c.args.self.now.bits)) g.B.BitBlock.width in
    grind (arith, nat_tests, first, past, c.bits.ensures, c.if-k-self.false, c.if-k-self-2.false)

pub returns-else-digit-bits-clause-left : goal.returns-else-digit-bits-clause-left
returns-else-digit-bits-clause-left g c one =
    let digit = c.args.k - c.args.self.now.index in
    let reached = λ (is : is_one (g.B.BitBlock.number c.args.self.now.bits) digit ≡ true). first_reached g.B.BitBlock.width g.B.BitBlock.number g.B.BitBlock.is_block
    (is_one (g.B.BitBlock.number c.args.self.now.bits)) g.B.BitBlock.width digit is in
    grind (arith, nat_tests, reached, one, c.has_one_at.ensures, c.if-k-self.false, c.if-k-self-2.false)
