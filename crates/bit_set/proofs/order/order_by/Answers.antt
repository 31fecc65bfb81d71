use Rattle.set_algebra.proofs.OrderLemmas.{order-alike}
use Rattle.set_algebra.proofs.MismatchLemmas.{all_alike}
use Rattle.bit_set.proofs.order.order_by.Goals as goal

pub returns-in-None : goal.returns-in-None
returns-in-None g c = order-alike c.args.a.now.values c.args.b.now.values (all_alike g.B.BitBlock.width _ _ g.met.B.BitBlock.width_law.positive (rw c.in-None.is at c.requires))
