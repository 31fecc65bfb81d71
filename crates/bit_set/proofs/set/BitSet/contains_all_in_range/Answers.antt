use Rattle.set_algebra.proofs.RangeQueryLemmas.{is_subset-range, tells_all}
use Rattle.bit_set.proofs.set.BitSet.contains_all_in_range.Goals as goal

pub returns-clause-members : goal.returns-clause-members
returns-clause-members g c = rw (← c.self.view_is) (tells_all _ _ _ c.self.inside.bits.values c.all_in_range.ensures)

pub returns-clause-returned : goal.returns-clause-returned
returns-clause-returned g c = is_subset-range _ _ _ _ (returns-clause-members g c)
