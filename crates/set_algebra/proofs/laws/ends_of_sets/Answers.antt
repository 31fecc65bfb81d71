use Rattle.set_algebra.proofs.TestLemmas.{greatest_of, last_is_greatest, least_of}
use Rattle.set_algebra.proofs.laws.ends_of_sets.Goals as goal

pub returns : goal.returns
returns c = record { greatest = greatest_of; least = least_of; last = last_is_greatest }
