use Rattle.std.proofs.{Common.{◌%◌, ◌==◌, rules}, lemmas.Iterator.Consumers.{YieldsList-at, YieldsList-from_filter}}
use borrow.Author.Tests.{tests}
use Rattle.bit_set.proofs.{CallerLemmas.gives_left, WalkCalls.greatest_from_max}
use Rattle.uses.proofs.chains.greatest_odd.Goals as goal

pub returns : goal.returns
returns g c =
    greatest_from_max c.max.result c.max.ensures.ran
    (YieldsList-from_filter _ (λ x. x % 2 == 1) (YieldsList-at c.filter.ensures.source (gives_left _ c.iter.result c.iter.ensures.left)) c.filter.ensures.closure (λ x b q k. search (rules, tests)))
