use Rattle.bit_set.proofs.ChangeLemmas.{changes_popped}
use Rattle.set_algebra.proofs.EndLemmas.{count_popped_first, popped_first}
use Rattle.bit_set.proofs.set.BitSet.pop_first.Goals as goal

pub returns-clause-elements : goal.returns-clause-elements
returns-clause-elements g c = rw (← c.self.view_is) (popped_first c.self.inside.bits.values _ _ c.take_first_one.ensures.first c.take_first_one.ensures.values).0

pub returns-clause-members : goal.returns-clause-members
returns-clause-members g c = rw (← c.self.view_is) (popped_first c.self.inside.bits.values _ _ c.take_first_one.ensures.first c.take_first_one.ensures.values).1

pub returns-clause-count : goal.returns-clause-count
returns-clause-count g c = count_popped_first c.args.self.now.values c.take_first_one.new.self.values c.take_first_one.result (returns-clause-elements g c)

pub returns-clause-changes : goal.returns-clause-changes
returns-clause-changes g c = changes_popped c.args.self.now.values c.take_first_one.new.self.values c.take_first_one.result (returns-clause-elements g c)
