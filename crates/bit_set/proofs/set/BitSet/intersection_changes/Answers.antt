use Rattle.set_algebra.{proofs.SetLemmas.IsAscending-elements, specs.Sets.{elements, has, intersection, is_subset}}
use Rattle.bit_set.proofs.ReportedLemmas.{reported_fewer, filter_kept, filter_count}
use Rattle.bit_set.proofs.set.BitSet.intersection_changes.Goals as goal

pub returns-clause-count : goal.returns-clause-count
returns-clause-count g c =
    let s = elements c.args.self.now.values in
    let t = elements c.args.other.now.values in
    reported_fewer s (intersection s t) _ (is_subset s t) c.merge_changes.result c.merge_changes.ensures.elements c.merge_changes.ensures.changed
    (filter_kept (λ n. has t n) s (IsAscending-elements c.args.self.now.values)) (filter_count (λ n. has t n) s)
