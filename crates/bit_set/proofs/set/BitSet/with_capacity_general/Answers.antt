use Rattle.std.proofs.{Common.{false, ap, rules}, lemmas.List.length-replicate}
use Rattle.set_algebra.{proofs.ValueLemmas.elements-all_false, specs.Sets.has}
use Rattle.bit_set.proofs.set.BitSet.with_capacity_general.Goals as goal

pub returns-clause-elements : goal.returns-clause-elements
returns-clause-elements g c = rw c.in_ok-bits.ensures.values (elements-all_false c.args.len)

pub returns-clause-size : goal.returns-clause-size
returns-clause-size g c = record { long = rw c.in_ok-bits.ensures.values (length-replicate c.args.len false); capacity = search rules }

pub returns-clause-members : goal.returns-clause-members
returns-clause-members g c m = ap (λ s. has s m) (returns-clause-elements g c)
