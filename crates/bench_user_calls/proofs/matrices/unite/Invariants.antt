use Rattle.std.proofs.Common.{◌<◌, length}
use Rattle.bench_user_calls.proofs.matrices.unite.Given as goal

abbrev pub invariant-loop-turn : goal.invariant-loop-turn
invariant-loop-turn l = 2 < length l.rows.rows
