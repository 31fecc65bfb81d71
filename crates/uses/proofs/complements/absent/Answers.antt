use Rattle.bit_set.proofs.CallerLemmas.{count_complement}
use Rattle.std.proofs.{Common.arith, lemmas.Bool.Decides.nat_tests}
use Rattle.uses.proofs.complements.absent.Goals as goal

pub returns-clause-count : goal.returns-clause-count
returns-clause-count g c = count_complement c.args.size c.toggle_range.new.self.values c.args.present.now.values
    (λ x. grind (arith, nat_tests, c.in_ok-toggle_range.ensures.members x, c.truncate.ensures.members x, c.in_ok-set.ensures.members x))
