use Rattle.std.proofs.{Common.{nat_lt, rules}, lemmas.Iterator.Search.all_from_yields_List}
use borrow.Author.Tests.{tests}
use Rattle.bit_set.proofs.CallerLemmas.{gives_left}
use Rattle.uses.proofs.chains.all_below.Goals as goal

pub returns : goal.returns
returns g c = all_from_yields_List (λ x. nat_lt x c.args.n) _ _ _ c.all.ensures.ran (gives_left _ c.iter.result c.iter.ensures.left) (λ x b q k. search (rules, tests))
