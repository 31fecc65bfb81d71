use Rattle.std.proofs.lemmas.Iterator.{YieldsList-from_take, Consumers.YieldsList-at}
use Rattle.bit_set.proofs.CallerLemmas.{gives_left, set_of_chain}
use Rattle.uses.proofs.chains.ten_least.Goals as goal

pub returns : goal.returns
returns g c = set_of_chain c.from_iter.result c.from_iter.ensures.ok
    (YieldsList-from_take 10 (YieldsList-at c.take.ensures.source (gives_left _ c.iter.result c.iter.ensures.left)) c.take.ensures.count)
