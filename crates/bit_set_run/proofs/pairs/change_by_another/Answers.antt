use Rattle.std.proofs.{Common.{◌≡◌, ◌<◌, length, map, set, sym, ◌∙◌, arith}, lemmas.Result.err_from_is_err_and}
use Rattle.bit_set_run.specs.{Capacities.KeepsCapacities, Elements.elements_of, Pairs.command_of, Run.FailsAt}
use Rattle.bit_set_run.proofs.PairLemmas.{HasDone, done_with, put_back_beside, put_back_both, read_at, read_beside, refused_with}
use Rattle.bit_set_run.proofs.pairs.change_by_another.Given.{Over}
use Rattle.bit_set_run.proofs.pairs.change_by_another.Goals.{In_err-changed, In_ok-changed}
use Rattle.bit_set_run.proofs.pairs.change_by_another.Goals as goal

done : (g : Over) (c : In_ok-changed g)
    → HasDone g.B.BitBlock.width c.args.sets.now (command_of c.args.change c.args.to c.args.from)
    (set (set (set c.args.sets.now c.place-from.result c.replace-other.new.dest) c.place-to.result c.change_pair-changed.new.set)
    c.place-from.result c.change_pair-changed.new.other)
done g c =
    let sets = c.args.sets.now in
    let to = c.place-to.result in
    let from = c.place-from.result in
    let apart = c.if-to-from.false in
    let there : to < length sets = omega (arith, c.told-sets, c.place-to.ensures.within) in
    let within : from < length sets = omega (arith, c.told-sets, c.place-from.ensures.within) in
    let taken : c.replace-other.result ≡ c.index-sets-from.result = cc (c.replace-other.ensures.value) in
    let at_to = sym c.index-sets-to.is ∙ read_beside sets to from c.replace-other.new.dest c.index-sets-to.result there apart c.index-sets-to.is in
    let at_from = taken ∙ read_at sets from c.index-sets-from.result within c.index-sets-from.is in
    let first = c.change_pair-changed.new.set in
    let second = c.change_pair-changed.new.other in
    let after = c.in_ok-changed.ensures in
    rw (put_back_beside sets to from c.replace-other.new.dest first second apart, ← c.place-to.ensures.place, ← c.place-from.ensures.place)
    (done_with g.B.BitBlock.width sets c.args.change to from _ _ first second apart there within at_to at_from after.set after.other after.capacities)

pub returns-clause-sets : goal.returns-clause-sets
returns-clause-sets g c = (done g (goal.at.returns-clause-sets g c).In_ok-changed).sets

pub returns-clause-capacities : goal.returns-clause-capacities
returns-clause-capacities g c = (done g (goal.at.returns-clause-capacities g c).In_ok-changed).capacities

refused : (g : Over) (c : In_err-changed g)
    → (set (set (set c.args.sets.now c.place-from.result c.replace-other.new.dest) c.place-to.result c.change_pair-changed.new.set)
    c.place-from.result c.change_pair-changed.new.other ≡ c.args.sets.now)
    × FailsAt (map elements_of c.args.sets.now) (command_of c.args.change c.args.to c.args.from) (map elements_of c.args.sets.now)
    × KeepsCapacities c.args.sets.now (command_of c.args.change c.args.to c.args.from) c.args.sets.now
refused g c =
    let sets = c.args.sets.now in
    let to = c.place-to.result in
    let from = c.place-from.result in
    let left = c.in_err-changed.ensures in
    let first : c.change_pair-changed.new.set ≡ c.index-sets-to.result = left.set_left ∙ sym c.index-sets-to.is in
    let second : c.change_pair-changed.new.other ≡ c.index-sets-from.result = cc (left.other_left, c.replace-other.ensures.value) in
    let fails = refused_with sets c.args.change to from c.if-to-from.false left.fails in (
      put_back_both sets to from c.replace-other.new.dest c.change_pair-changed.new.set c.change_pair-changed.new.other
          c.if-to-from.false (rw first c.index-sets-to.is) (rw second c.index-sets-from.is),
      rw (← c.place-to.ensures.place, ← c.place-from.ensures.place) fails.0,
      rw (← c.place-to.ensures.place, ← c.place-from.ensures.place) fails.1,
    )

pub returns-in_err-changed-clause-fails : goal.returns-in_err-changed-clause-fails
returns-in_err-changed-clause-fails g c =
    let p = err_from_is_err_and c.from_residual.result c.from_residual.ensures.1 in
    let left = refused g (goal.at.returns-in_err-changed-clause-fails g c).In_err-changed in
    rw (p.1, left.0) left.1

pub returns-in_err-changed-clause-capacities_left : goal.returns-in_err-changed-clause-capacities_left
returns-in_err-changed-clause-capacities_left g c =
    let p = err_from_is_err_and c.from_residual.result c.from_residual.ensures.1 in
    let left = refused g (goal.at.returns-in_err-changed-clause-capacities_left g c).In_err-changed in
    rw (p.1, left.0) left.2
