use Rattle.std.proofs.lemmas.Iterator.{items_from_collect}
use Rattle.bit_set.proofs.CallerLemmas.{gives_greatest}
use Rattle.uses.proofs.from_the_back.greatest_k.Goals as goal

pub returns : goal.returns
returns g c =
    items_from_collect _ c.collect.ensures.ran
    (gives_greatest _ c.args.k c.take.result c.rev.result c.iter.result c.take.ensures.source c.take.ensures.count c.rev.ensures.source c.iter.ensures.left)
