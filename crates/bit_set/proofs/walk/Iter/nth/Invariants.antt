use Rattle.std.proofs.Common.{◌-◌, ◌≤◌}
use Rattle.bit_set.specs.Indexes.{Passes}
use Rattle.bit_set.proofs.walk.Iter.nth.Given as goal

-- as many calls as are not ahead any more
abbrev pub invariant-loop-ahead : goal.invariant-loop-ahead
invariant-loop-ahead g l = record {
  within : l.ahead ≤ l.n;
  so : Passes g.B.BitBlock.width (l.n - l.ahead) l.fn.self l.self;
}
