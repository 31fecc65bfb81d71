use Rattle.std.proofs.{Common.{◌==◌, rules}, lemmas.Iterator.Search.position_from_yields_List}
use borrow.Author.Tests.{tests}
use Rattle.bit_set.proofs.CallerLemmas.{gives_left}
use Rattle.uses.proofs.chains.place_of.Goals as goal

pub returns : goal.returns
returns g c = position_from_yields_List (λ x. x == c.args.value) _ _ _ c.position.ensures.ran (gives_left _ c.iter.result c.iter.ensures.left) (λ x b q k. search (rules, tests))
