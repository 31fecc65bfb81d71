use Rattle.std.proofs.Common.{◌%◌, ◌==◌, rules}
use borrow.Author.Tests.{tests}
use Rattle.bit_set.proofs.CallerLemmas.{members-from_filter}
use Rattle.uses.proofs.evens_by_chain.Goals as goal

pub returns : goal.returns
returns g c =
    members-from_filter (λ x. x % 2 == 0) c.from_iter.result c.from_iter.ensures.ok c.filter.ensures.source c.filter.ensures.closure
    (λ x b q k. search (rules, tests))
