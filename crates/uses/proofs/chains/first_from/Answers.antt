use Rattle.std.proofs.Common.{nat_le, rules}
use borrow.Author.Tests.{tests}
use Rattle.bit_set.proofs.{CallerLemmas.gives_left, SetLemmas.IsAscending-elements, WalkCalls.least_from_find}
use Rattle.uses.proofs.chains.first_from.Goals as goal

pub returns : goal.returns
returns g c =
    least_from_find (λ x. nat_le c.args.n x) _ _ c.find.result c.find.ensures.ran (gives_left _ c.iter.result c.iter.ensures.left) (λ x b q k. search (rules, tests))
    (IsAscending-elements c.args.set.now.values)
