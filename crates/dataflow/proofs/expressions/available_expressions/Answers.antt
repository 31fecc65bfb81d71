use Rattle.std.proofs.Common.{◌≡◌, ◌++◌, List, drop, length, map, take, ap, arith, refl, sym, true≢false}
use Rattle.std.proofs.lemmas.List.{length-map}
use Rattle.bit_set.specs.{Bits.Bits, Sets.elements}
use Rattle.dataflow.specs.{Availability.{AreComplements, flow_of, missing_flow}, Flow.{AreReached, Flow, lists_of}}
use Rattle.dataflow.proofs.AvailabilityLemmas.{AreFound, are_available, are_found, each_available}
use Rattle.dataflow.proofs.TakeLemmas.{written_back}
use Rattle.dataflow.proofs.expressions.available_expressions.Goals as goal

pub returns : goal.returns
returns g c =
    let blocks = c.args.blocks.now in
    let all = elements c.in_ok-all.all.values in
    let missing = c.in_ok-missing.missing.items in
    let sets = c.in_ok-sets.sets in
    let new = c.complement_each.new.sets in
    let as_long = c.complement_each.auto.sets in
    let len = sets.ok in
    let value = c.as_mut_slice.ensures.len in
    let whole : take sets.len (new ++ drop (length new) sets.items) ≡ new = written_back new (drop (length new) sets.items) sets.len (omega (arith, as_long, len, value)) in
    let same : length (map flow_of missing) ≡ length (map (missing_flow (length blocks) all) blocks) = ap (λ (l : List Flow). length l) c.in_ok-missing.ensures.missing in
    let solved : length sets.items ≡ length missing = rw c.as_slice.ensures.value at c.in_ok-sets.ensures.long in
    let long : length (lists_of sets.items) ≡ length blocks =
    omega (arith, solved, same, length-map missing flow_of, length-map blocks (missing_flow (length blocks) all), length-map sets.items (λ (s : Bits). elements s.values)) in
    let reached : AreReached (map (missing_flow (length blocks) all) blocks) (lists_of sets.items) = rw (c.as_slice.ensures.value, c.in_ok-missing.ensures.missing) at c.in_ok-sets.ensures.reached in
    let complements : AreComplements c.args.count (lists_of sets.items) (lists_of new) = rw c.as_mut_slice.ensures.value at c.in_ok-complement_each.ensures.complements in
    let found : AreFound blocks c.args.count (lists_of new) =
    are_found blocks all c.members_of_merged_sets.ensures.difference c.args.count (lists_of sets.items)
    (lists_of new) c.in_ok-all.ensures.all long reached complements in
    record {
      long = rw whole (omega (arith, as_long, len, value, solved, same, length-map missing flow_of, length-map blocks (missing_flow (length blocks) all)));
      solution = rw whole (are_available blocks c.args.count (lists_of new) found);
      available = rw whole (each_available blocks c.args.count (lists_of new) found);
      none = λ _ _. refl;
    }

pub returns-in_err-all-clause-none : goal.returns-in_err-all-clause-none
returns-in_err-all-clause-none g c _ none = absurd (true≢false (sym (c.in_err-all.ensures.none none)))

pub returns-in_err-missing-clause-none : goal.returns-in_err-missing-clause-none
returns-in_err-missing-clause-none g c none _ = absurd (true≢false (sym (c.in_err-missing.ensures.none none)))

pub returns-in_err-sets-clause-none : goal.returns-in_err-sets-clause-none
returns-in_err-sets-clause-none g c none _ =
    let blocks = c.args.blocks.now in
    let missing = c.in_ok-missing.missing.items in
    let same : length (map flow_of missing) ≡ length (map (missing_flow (length blocks) (elements c.in_ok-all.all.values)) blocks) = ap (λ (l : List Flow). length l) c.in_ok-missing.ensures.missing in
    absurd (true≢false (sym (c.in_err-sets.ensures.none (rw c.as_slice.ensures.value
    (omega (arith, none, same, length-map missing flow_of, length-map blocks (missing_flow (length blocks) (elements c.in_ok-all.all.values))))))))

pub returns-in_err-complement_each-clause-none : goal.returns-in_err-complement_each-clause-none
returns-in_err-complement_each-clause-none g c none _ =
    let blocks = c.args.blocks.now in
    let missing = c.in_ok-missing.missing.items in
    let same : length (map flow_of missing) ≡ length (map (missing_flow (length blocks) (elements c.in_ok-all.all.values)) blocks) = ap (λ (l : List Flow). length l) c.in_ok-missing.ensures.missing in
    let solved : length c.in_ok-sets.sets.items ≡ length missing = rw c.as_slice.ensures.value at c.in_ok-sets.ensures.long in
    absurd (true≢false (sym (c.in_err-complement_each.ensures.none (rw c.as_mut_slice.ensures.value
    (omega (arith, none, solved, same, length-map missing flow_of, length-map blocks (missing_flow (length blocks) (elements c.in_ok-all.all.values))))))))
