use Rattle.std.proofs.Common.{◌+◌, length, ap, ◌∙◌}
use Rattle.set_algebra.specs.{Ranges.those_in_range, Sets.{elements, has}}
use Rattle.set_algebra.proofs.{RangeLemmas.count_missing, SetLemmas.IsAscending-elements}
use Rattle.bit_set.proofs.{ChainLemmas.runs_past_members, MissingLemmas.has-missing}
use Rattle.bit_set.proofs.set.BitSet.missing.Goals as goal

pub returns-clause-members : goal.returns-clause-members
returns-clause-members g c n = ap (λ s. has s n) (rw c.get_ref.ensures at c.over.ensures.left) ∙ has-missing _ _ (elements c.args.self.now.values) n

pub returns-clause-runs : goal.returns-clause-runs
returns-clause-runs g c = runs_past_members

pub returns-clause-count : goal.returns-clause-count
returns-clause-count g c =
    let s = elements c.args.self.now.values in
    let a = c.args.range.start in
    let b = c.args.range.end in
    ap (λ left. length left + length (those_in_range s a b)) (rw c.get_ref.ensures at c.over.ensures.left) ∙ count_missing a b s (IsAscending-elements c.args.self.now.values)
