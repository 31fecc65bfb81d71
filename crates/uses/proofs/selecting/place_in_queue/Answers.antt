use Rattle.std.proofs.{Common.{arith, sym}, lemmas.Option.slice_get_within}
use Rattle.bit_set.{specs.Sets.elements, proofs.SetLemmas.IsAscending-elements}
use Rattle.uses.proofs.selecting.place_in_queue.Goals as goal

pub returns-clause-within : goal.returns-clause-within
returns-clause-within g c =
    slice_get_within (elements c.args.waiting.now.values) c.count_in_range-before.result c.args.ticket
    ((c.ranks_of_members.ensures.selected _ _ _ (IsAscending-elements c.args.waiting.now.values)).1
    (grind (arith, c.contains.ensures.value, c.if-not-contains.false), sym c.count_in_range-before.ensures.value))
