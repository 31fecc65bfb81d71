use Rattle.std.proofs.Common.{◌≡◌, ◌+◌, ◌<◌, ◌≤◌, ◌++◌, ◌∷◌, [], get_or, length, sym, take, arith}
use Rattle.std.proofs.{lemmas.Bool.ltb-false, lemmas.List.take_more}
use Rattle.bit_set.specs.{Members.IsUnionWithDifference, Sets.elements}
use Rattle.dataflow.{specs.Flow.{lists_of, set_at}, proofs.solver.transfer.Goals.{in-Some+in_ok-grew, in_default}}
use Rattle.dataflow.proofs.TakeLemmas.{grew_on, mapped_past, read_set, same_on, transfers_on, transfers_past}
use Rattle.dataflow.proofs.solver.transfer.Goals as goal

pub loop-source-preserved : goal.loop-source-preserved
loop-source-preserved g c =
    let sources = c.args.sources.now in
    let killed = elements c.args.killed.now.values in
    let sets = c.args.sets.now in
    let old = elements c.args.into.now.values in
    let it = c.loop-source.invariant in
    let i = c.loop-source.source-index in
    let x = get_or sources i 0 in
    let inside : i < length sources = omega arith in
    let longer : take (i + 1) sources ≡ take i sources ++ x ∷ [] = take_more sources i 0 inside in
    elim c.match-get.branch [
      | in-Some+in_ok-grew w ↦
          let read = read_set sets x w.in-Some.set.now (w.in-Some.ensures.lookup.3.1 (record { values = []; capacity = 0 })) in
          let members : IsUnionWithDifference (elements c.loop-source.into.values) (set_at (lists_of sets) x) killed
          (elements w.union_with_difference.new.self.values) = rw read at w.in_ok-grew.ensures.members in
          rw (longer, w.into-is, w.grew-is) (record {
            transfers = transfers_on (take i sources) killed (lists_of sets) old (elements c.loop-source.into.values) it.transfers x _ members;
            same = same_on c.loop-source.grew w.in_ok-grew.field-0 old _ _ it.same w.in_ok-grew.ensures.changed.changed;
            grew = grew_on c.loop-source.grew w.in_ok-grew.field-0 old _ _ it.same it.grew w.in_ok-grew.ensures.count;
          })
      | in_default w ↦
          let past : length sets ≤ x = ltb-false x (length sets) (sym w.in_default.ensures.lookup.0) in
          rw (longer, w.into-is, w.grew-is) (record {
            transfers = transfers_past (take i sources) killed (lists_of sets) old _ it.transfers x (mapped_past (λ s. elements s.values) sets x [] past);
            same = it.same;
            grew = it.grew;
          })
    ]
