use Rattle.std.proofs.Common.{subst, ap}
use Rattle.set_algebra.specs.Sets.{IsAscending}
use Rattle.bit_set.proofs.walk.Iter.ascends.Goals as goal

pub returns : goal.returns
returns g c = subst IsAscending (ap (λ walk. walk.left) c.self.view_is) c.self.invariant.ascends
