use Rattle.std.proofs.Common.{◌∙◌, arith}
use Rattle.set_algebra.specs.Sets.{elements}
use Rattle.set_algebra.proofs.{RangeLemmas.in_range-le, RangeQueryLemmas.count_range, SetLemmas.IsAscending-elements}
use Rattle.bit_set.proofs.set.BitSet.count_in_range.Goals as goal

pub returns-clause-value : goal.returns-clause-value
returns-clause-value g c = c.count_ones_in_range.ensures ∙ rw (← c.self.view_is) (count_range _ _ c.self.inside.bits.values)

pub returns-clause-within : goal.returns-clause-within
returns-clause-within g c =
    let few = in_range-le (elements c.args.self.now.values) c.args.range.start c.args.range.end (IsAscending-elements c.args.self.now.values) in
    omega (arith, returns-clause-value g c, few)
