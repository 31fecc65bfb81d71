use Rattle.set_algebra.{proofs.SetLemmas.IsAscending-elements, specs.Sets.{elements, is_subset, union}}
use Rattle.bit_set.proofs.ReportedLemmas.{reported_as, reported_more, union_kept, union_count}
use Rattle.bit_set.proofs.set.BitSet.union_changes.Goals as goal

pub returns-clause-were_in : goal.returns-clause-were_in
returns-clause-were_in g c =
    let s = elements c.args.self.now.values in
    let t = elements c.args.other.now.values in
    reported_as s (union s t) _ (is_subset t s) c.merge_changes.result c.merge_changes.ensures.elements c.merge_changes.ensures.changed
    (union_kept s t (IsAscending-elements c.args.self.now.values))

pub returns-clause-count : goal.returns-clause-count
returns-clause-count g c =
    let s = elements c.args.self.now.values in
    let t = elements c.args.other.now.values in
    reported_more s (union s t) _ (is_subset t s) c.merge_changes.result c.merge_changes.ensures.elements c.merge_changes.ensures.changed
    (union_kept s t (IsAscending-elements c.args.self.now.values)) (union_count s t (IsAscending-elements c.args.self.now.values))
