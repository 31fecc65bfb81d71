use Rattle.std.proofs.lemmas.Iterator.{items_from_collect, YieldsList-from_take, Consumers.YieldsList-at}
use Rattle.bit_set.proofs.CallerLemmas.{gives_left}
use Rattle.uses.proofs.selecting.page.Goals as goal

pub returns : goal.returns
returns g c =
    items_from_collect _ c.collect.ensures.ran
    (YieldsList-from_take c.args.count (YieldsList-at c.take.ensures.source (gives_left _ c.iter_from.result c.iter_from.ensures.left)) c.take.ensures.count)
