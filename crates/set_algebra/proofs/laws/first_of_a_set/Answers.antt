use Rattle.set_algebra.proofs.MemberLemmas.{takes_least, without_least}
use Rattle.set_algebra.proofs.laws.first_of_a_set.Goals as goal

pub returns : goal.returns
returns c = record { taken = λ s t x. takes_least 0 s x t; rest = λ s t x. without_least 0 s x t }
