use Rattle.std.proofs.Common.{ap, arith}
use Rattle.bit_words.proofs.WalkLemmas.{pulled_last_none, pulled_last_some}
use Rattle.bit_words.proofs.bit_vec.nonzero.back.NonzeroDoubleEndedIterator.next_back.Goals as goal

pub invariant_of-self : goal.invariant_of-self
invariant_of-self g c = c.self.invariant

pub returns-then-is_none-clause-steps : goal.returns-then-is_none-clause-steps
returns-then-is_none-clause-steps g c =
    let is = c.self.view_is in
    let pulls = ap (λ v. v.pulls) is in
    pulled_last_none c.args.self.now c.take_last-last.new.self _ c.take_last-last.result c.if-is_none.ensures c.take_last-last.ensures.steps (ap (λ v. v.blocks) is) (ap (λ v. v.left) is)
    (omega (arith, c.tick.ensures, pulls)) (ap (λ v. v.summary_pulls) is) (ap (λ v. v.summary_left) is)

pub returns-else-is_none-clause-steps : goal.returns-else-is_none-clause-steps
returns-else-is_none-clause-steps g c =
    pulled_last_some c.args.self.now c.take_last-last.new.self c.take_last-last.result c.if-is_none.ensures c.take_last-last.ensures.steps
