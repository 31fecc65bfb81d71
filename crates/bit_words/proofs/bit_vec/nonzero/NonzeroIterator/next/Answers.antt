use Rattle.bit_words.proofs.WalkLemmas.{none_left, pulled_none, pulled_some}
use Rattle.bit_words.proofs.bit_vec.nonzero.NonzeroIterator.next.Goals as goal

pub count_end-requires : goal.count_end-requires
count_end-requires g c =
    let none = none_left c.args.self.now c.take_first-next.new.self c.take_first-next.result c.if-is_none.ensures c.take_first-next.ensures.steps in
    record { left = none.0; summary = none.1 }

pub returns-then-is_none-clause-steps : goal.returns-then-is_none-clause-steps
returns-then-is_none-clause-steps g c =
    let end = c.count_end.ensures in
    pulled_none c.args.self.now c.take_first-next.new.self c.count_end.new.self c.take_first-next.result c.if-is_none.ensures
    c.take_first-next.ensures.steps end.blocks end.left end.pulls end.summary_pulls end.summary_left

pub returns-else-is_none-clause-steps : goal.returns-else-is_none-clause-steps
returns-else-is_none-clause-steps g c =
    pulled_some c.args.self.now c.take_first-next.new.self c.take_first-next.result c.if-is_none.ensures c.take_first-next.ensures.steps
