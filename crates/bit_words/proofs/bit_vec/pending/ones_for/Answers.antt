use Rattle.std.proofs.{Common.{◌≡◌, ◌≤◌, true, nat_lt, sym, ◌∙◌, arith}, lemmas.Bool.Decides.nat_tests}
use Rattle.bit_blocks.proofs.Masks.{is_one-ones}
use Rattle.bit_words.proofs.bit_vec.pending.ones_for.Goals as goal

pub returns-else-count-bits-clause-digits : goal.returns-else-count-bits-clause-digits
returns-else-count-bits-clause-digits g c = λ j within.
    let w = g.B.BitBlock.width in
    let few : w ≤ c.args.count = omega (arith, c.if-count-bits.false, c.bits.ensures) in
    let here : nat_lt j w ≡ true = grind (arith, nat_tests) in
    let also : nat_lt j c.args.count ≡ true = grind (arith, nat_tests) in
    is_one-ones (g.B.BitBlock.number c.all_ones.result) w j c.all_ones.ensures.of_number ∙ here ∙ sym also
