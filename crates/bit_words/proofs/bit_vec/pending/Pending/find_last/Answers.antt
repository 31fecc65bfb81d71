use Rattle.std.proofs.{Common.arith, lemmas.Bool.Decides.nat_tests}
use Rattle.bit_words.proofs.{LastLemmas.last_in_hand, NextAtLemmas.{first_most, next_at-zero}}
use Rattle.bit_blocks.specs.Digits.{is_one}
use Rattle.bit_words.proofs.bit_vec.pending.Pending.find_last.Goals as goal

pub returns-in-Some : goal.returns-in-Some
returns-in-Some g c =
    let last = c.in-Some.ensures in
    record {
      reached = let most = first_most (is_one (g.B.BitBlock.number c.args.self.now.bits)) g.B.BitBlock.width in omega (arith, most, last.reached);
      before = last.before;
      between = last.between;
    }

pub returns-then-not-is_nonzero : goal.returns-then-not-is_nonzero
returns-then-not-is_nonzero g c = λ j from below.
    let used_up = next_at-zero g.B.BitBlock.width c.args.self.now.index (g.B.BitBlock.number c.args.self.now.bits) (grind (arith, nat_tests, c.is_nonzero.ensures, c.if-not-is_nonzero.true)) in
    c.in_default.ensures j (omega (arith, from, used_up)) below

pub returns : goal.returns
returns g c =
    last_in_hand g.B.BitBlock.width g.B.BitBlock.number g.B.BitBlock.is_block c.args.self.now.index c.args.self.now.end
    c.highest_one.result c.args.self.now.bits c.args.blocks.now c.requires.hand c.highest_one.ensures.highest
    c.highest_one.ensures.within c.in_default.ensures
