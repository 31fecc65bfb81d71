use Rattle.std.proofs.Common.{◌+◌}
use Rattle.bit_set.specs.{Ranges.span, Sets.elements}
use Rattle.free_slots.proofs.SlotLemmas.{run_counted, table_of}
use Rattle.free_slots.proofs.Slots.take_run.Goals as goal

pub returns-clause-count : goal.returns-clause-count
returns-clause-count g c =
    let values = c.self.inside.free.values in
    let s = elements values in
    let first = c.in_ok-first.first in
    let end = first + c.args.count in
    rw (← c.self.view_is) (run_counted (table_of values) c.args.count first _
    (rw (← c.self.view_is) at c.in_ok-first.ensures.lowest.run) (c.numbers_of_ranges.ensures.members first end)
    (c.numbers_of_ranges.ensures.count first end) (c.sets_in_one_another.ensures.subset (span first end) s)
    (c.sets_in_one_another.ensures.no_difference (span first end) s)
    (c.parts_of_ranges.ensures.count s first end (c.sets_ascend.ensures.elements values)) c.remove_range.ensures.count)
