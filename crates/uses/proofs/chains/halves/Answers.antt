use Rattle.std.proofs.{Common.{◌/◌, rules}, lemmas.Iterator.{YieldsList-from_map, Consumers.YieldsList-at}}
use borrow.Author.Tests.{tests}
use Rattle.bit_set.proofs.CallerLemmas.{gives_left, set_of_chain}
use Rattle.uses.proofs.chains.halves.Goals as goal

pub returns : goal.returns
returns g c = set_of_chain c.from_iter.result c.from_iter.ensures.ok
    (YieldsList-from_map _ (λ x. x / 2) (YieldsList-at c.map.ensures.source (gives_left _ c.iter.result c.iter.ensures.left)) c.map.ensures.closure (λ x r q k. search (rules, tests)))
