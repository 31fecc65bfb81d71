use Rattle.std.proofs.Common.{ap, ◌∙◌}
use Rattle.bit_blocks.specs.Ranges.{in_range}
use Rattle.set_algebra.{specs.Sets.{elements, has}, proofs.SetLemmas.has-filter}
use Rattle.bit_set.proofs.ChainLemmas.{runs_of_walk}
use Rattle.bit_set.proofs.set.BitSet.range.Goals as goal

pub returns-clause-members : goal.returns-clause-members
returns-clause-members g c n = ap (λ s. has s n) (rw c.get_ref.ensures at c.over_part.ensures.left) ∙ has-filter (in_range c.args.range.start c.args.range.end) (elements c.args.self.now.values) n

pub returns-clause-runs : goal.returns-clause-runs
returns-clause-runs g c = runs_of_walk
