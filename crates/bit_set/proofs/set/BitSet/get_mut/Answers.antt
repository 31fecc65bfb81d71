use Rattle.std.proofs.Common.{refl}
use Rattle.set_algebra.proofs.SetLemmas.{has-set}
use Rattle.bit_set.proofs.set.BitSet.get_mut.Goals as goal

pub returns : goal.returns
returns g c = (
  (refl, λ w. refl),
  record { writes_back = tt; value = c.self.view_is; members = λ i bit within. λ n. has-set c.args.self.now.values i bit n within },
)
