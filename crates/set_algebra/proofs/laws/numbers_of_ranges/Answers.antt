use Rattle.set_algebra.proofs.RangeLemmas.{toggled_twice}
use Rattle.set_algebra.proofs.laws.numbers_of_ranges.Goals as goal

pub returns-clause-twice : goal.returns-clause-twice
returns-clause-twice c = toggled_twice
