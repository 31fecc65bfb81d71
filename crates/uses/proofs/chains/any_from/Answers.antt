use Rattle.std.proofs.{Common.{nat_le, rules}, lemmas.Iterator.Search.any_from_yields_List}
use borrow.Author.Tests.{tests}
use Rattle.bit_set.proofs.CallerLemmas.{gives_left}
use Rattle.uses.proofs.chains.any_from.Goals as goal

pub returns : goal.returns
returns g c = any_from_yields_List (λ x. nat_le c.args.n x) _ _ _ c.any.ensures.ran (gives_left _ c.iter.result c.iter.ensures.left) (λ x b q k. search (rules, tests))
