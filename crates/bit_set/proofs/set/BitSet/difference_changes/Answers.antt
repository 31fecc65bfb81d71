use Rattle.std.proofs.Common.{not}
use Rattle.set_algebra.{proofs.SetLemmas.IsAscending-elements, specs.Sets.{difference, elements, has, is_disjoint}}
use Rattle.bit_set.proofs.ReportedLemmas.{reported_fewer, filter_kept, filter_count}
use Rattle.bit_set.proofs.set.BitSet.difference_changes.Goals as goal

pub returns-clause-count : goal.returns-clause-count
returns-clause-count g c =
    let s = elements c.args.self.now.values in
    let t = elements c.args.other.now.values in
    reported_fewer s (difference s t) _ (is_disjoint s t) c.merge_changes.result c.merge_changes.ensures.elements c.merge_changes.ensures.changed
    (filter_kept (λ n. not (has t n)) s (IsAscending-elements c.args.self.now.values)) (filter_count (λ n. not (has t n)) s)
