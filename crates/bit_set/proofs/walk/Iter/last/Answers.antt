use Rattle.bit_set.proofs.NthLemmas.{last_given}
use Rattle.bit_set.proofs.walk.Iter.last.Goals as goal

pub returns-clause-value : goal.returns-clause-value
returns-clause-value g c = last_given c.args.self c.next_back.new.self c.next_back.result c.next_back.ensures.steps.item
