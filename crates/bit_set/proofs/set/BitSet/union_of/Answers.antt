use Rattle.set_algebra.specs.Sets.{elements}
use Rattle.bit_set.{specs.Many.HasSome, proofs.ManyLemmas.{none_longer, union_lists, union_members, union_some}}
use Rattle.bit_set.proofs.set.BitSet.union_of.{Given.Over, Goals.In_ok-bits}
use Rattle.bit_set.proofs.set.BitSet.union_of.Goals as goal

pub merged-requires : goal.merged-requires
merged-requires g c = record { fits = rw c.longest.ensures (none_longer _ c.args.sets.now) }

-- which numbers are in
members : (g : Over) (c : In_ok-bits g) → HasSome c.args.sets.now (elements c.in_ok-bits.bits.values)
members g c = union_members c.args.sets.now _ (rw c.longest.ensures at c.in_ok-bits.ensures.size.long)
    (rw c.longest.ensures at c.in_ok-bits.ensures.values)

pub returns-clause-members : goal.returns-clause-members
returns-clause-members g c = members g (goal.at.returns-clause-members g c).In_ok-bits

pub returns-clause-elements : goal.returns-clause-elements
returns-clause-elements g c = union_lists c.args.sets.now c.in_ok-bits.bits.values
    (members g (goal.at.returns-clause-elements g c).In_ok-bits)

pub returns-clause-some : goal.returns-clause-some
returns-clause-some g c = union_some c.args.sets.now _ (members g (goal.at.returns-clause-some g c).In_ok-bits)
