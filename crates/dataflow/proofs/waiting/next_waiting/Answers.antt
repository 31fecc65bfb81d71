use Rattle.std.proofs.Common.{◌++◌, ap}
use Rattle.bit_set.specs.Sets.{elements}
use Rattle.dataflow.proofs.waiting.next_waiting.Goals as goal

pub returns-in-Some-clause-next : goal.returns-in-Some-clause-next
returns-in-Some-clause-next c =
    let all = elements c.args.waiting.now.values in
    let found = c.in-Some.ensures.elements in
    (found.0 ++ all, ap (λ s. s ++ all) found.1)
