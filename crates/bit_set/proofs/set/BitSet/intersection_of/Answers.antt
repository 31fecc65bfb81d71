use Rattle.set_algebra.specs.Sets.{elements}
use Rattle.bit_set.{specs.Many.HasEach, proofs.ManyLemmas.{intersection_each, intersection_lists, intersection_members}}
use Rattle.bit_set.proofs.set.BitSet.intersection_of.{Given.Over, Goals.In_ok-bits}
use Rattle.bit_set.proofs.set.BitSet.intersection_of.Goals as goal

-- which numbers are in
members : (g : Over) (c : In_ok-bits g) → HasEach c.args.sets.now (elements c.in_ok-bits.bits.values)
members g c = intersection_members c.args.sets.now _ (rw c.shortest.ensures at c.in_ok-bits.ensures.size.long)
    (rw c.shortest.ensures at c.in_ok-bits.ensures.values)

pub returns-clause-members : goal.returns-clause-members
returns-clause-members g c = members g (goal.at.returns-clause-members g c).In_ok-bits

pub returns-clause-elements : goal.returns-clause-elements
returns-clause-elements g c = intersection_lists c.args.sets.now c.in_ok-bits.bits.values
    (members g (goal.at.returns-clause-elements g c).In_ok-bits)

pub returns-clause-each : goal.returns-clause-each
returns-clause-each g c = intersection_each c.args.sets.now _ (members g (goal.at.returns-clause-each g c).In_ok-bits)
