use Rattle.std.proofs.Common.{◌≡◌, ◌++◌}
use Rattle.bit_set_run.proofs.walking.numbers_of.Given as goal

abbrev pub invariant-loop-number : goal.invariant-loop-number
invariant-loop-number g l = l.numbers.items ++ g.W.NumberWalk.left l.number-iterator ≡ g.W.NumberWalk.left l.fn.walk
