use Rattle.bit_set.specs.Sets.{elements}
use Rattle.bit_set_c.proofs.Runs.{first_run, run_is_first}
use Rattle.bit_set_c.proofs.stretches.bit_set_next_run.Goals as goal

pub returns-clause-members : goal.returns-clause-members
returns-clause-members c =
    first_run (elements c.args.set.now.bits.values) c.args.from c.in-Some.first c.next_missing.result
    (rw c.get-set.ensures.value at c.in-Some.ensures.members)
    (rw c.get-set.ensures.value at c.next_missing.ensures.members)

pub returns-clause-runs : goal.returns-clause-runs
returns-clause-runs c =
    run_is_first c.args.set.now.bits.values c.args.from c.in-Some.first c.next_missing.result (returns-clause-members c)
