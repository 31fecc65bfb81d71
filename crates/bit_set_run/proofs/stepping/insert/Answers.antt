use Rattle.std.proofs.Common.{arith}
use Rattle.bit_set.proofs.ValueLemmas.{has-past}
use Rattle.bit_set_run.proofs.stepping.insert.Goals as goal

pub returns-in-Err-Memory-clause-fails : goal.returns-in-Err-Memory-clause-fails
returns-in-Err-Memory-clause-fails g c =
    let refused = rw c.in-Err-Memory.field-0-is at c.in-Err-Memory.ensures.fails in
    (refused.1, has-past c.args.set.now.values c.args.n (omega (arith, c.in-Err-Memory.ensures.grows.grows.full, c.in-Err-Memory.ensures.grows.grows.holds_values)), c.in-Err-Memory.ensures.grows.grows.err)
