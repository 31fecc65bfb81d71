use Rattle.std.proofs.Common.{◌≡◌, ◌*◌, length}
use Rattle.bench_calls.proofs.growing.grow.Given as goal

abbrev pub invariant-loop-turn : goal.invariant-loop-turn
invariant-loop-turn l = length l.bits.values ≡ l.values * l.turn
