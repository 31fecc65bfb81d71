use Rattle.set_algebra.proofs.RangeQueryLemmas.{is_disjoint-range, tells_none}
use Rattle.bit_set.proofs.set.BitSet.contains_any_in_range.Goals as goal

pub returns-clause-members : goal.returns-clause-members
returns-clause-members g c = rw (← c.self.view_is) (tells_none _ _ _ c.self.inside.bits.values c.any_in_range.ensures)

pub returns-clause-returned : goal.returns-clause-returned
returns-clause-returned g c = is_disjoint-range _ _ _ _ (returns-clause-members g c)
