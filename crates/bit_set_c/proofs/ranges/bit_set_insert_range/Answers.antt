use Rattle.c_handles.proofs.Outcomes.{on_done}
use Rattle.bit_set_c.proofs.ranges.bit_set_insert_range.Goals as goal

pub returns-clause-elements : goal.returns-clause-elements
returns-clause-elements c = on_done c.insert_range.result c.is_ok.result _ c.is_ok.ensures.value (rw c.get.ensures.value at c.insert_range.ensures.elements)
