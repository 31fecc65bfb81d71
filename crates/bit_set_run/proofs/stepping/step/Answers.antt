use Rattle.std.proofs.Common.{ap, ◌<◌, ◌==◌, ◌≢◌, ◌∙◌, if◌then◌else◌, [], map}
use Rattle.std.proofs.lemmas.Result.{on_ok_weaker, on_err_weaker}
use Rattle.bit_set.specs.{Bounds.greatest, Sets.{bound_of, elements, has, put, put_all, those_below, without}}
use Rattle.bit_set_run.specs.{Elements.elements_of, Run.elements_before_greatest}
use Rattle.bit_set_run.proofs.SteppingLemmas.{change_is, no_change_is, refused_at, set_at, sets-insert}
use Rattle.bit_set_run.proofs.stepping.step.Goals as goal

pub returns-in-Insert-clause-sets : goal.returns-in-Insert-clause-sets
returns-in-Insert-clause-sets g c =
    let n = c.in-Insert.n in
    rw c.in-Insert.is (on_ok_weaker c.insert.result (λ after. change_is c.args.sets.now c.place.result c.in-Insert.name c.index-sets-place.result c.insert.new.set (λ s. if n == greatest then s else put s n) c.told-sets c.place.ensures.within c.place.ensures.place after ∙ sets-insert (map elements_of c.args.sets.now) c.in-Insert.name n) c.insert.ensures.after)

pub returns-in-Insert-clause-fails : goal.returns-in-Insert-clause-fails
returns-in-Insert-clause-fails g c =
    let there = set_at c.args.sets.now c.place.result c.in-Insert.name c.index-sets-place.result c.told-sets c.place.ensures.within c.place.ensures.place in
    rw c.in-Insert.is (on_err_weaker c.insert.result (λ refused. (refused.0, ap (λ s. has s c.in-Insert.n) there ∙ refused.1, no_change_is c.args.sets.now c.place.result c.index-sets-place.result c.insert.new.set c.told-sets c.place.ensures.within (ap elements_of refused.2))) c.insert.ensures.fails)

pub returns-in-Remove-clause-sets : goal.returns-in-Remove-clause-sets
returns-in-Remove-clause-sets g c =
    rw c.in-Remove.is (change_is c.args.sets.now c.place-in-Remove.result c.in-Remove.name c.index-sets-place-in-Remove.result c.remove.new.self (λ s. without s c.in-Remove.n) c.told-sets c.place-in-Remove.ensures.within c.place-in-Remove.ensures.place c.remove.ensures.elements)

pub returns-in-Extend-clause-sets : goal.returns-in-Extend-clause-sets
returns-in-Extend-clause-sets g c =
    rw c.in-Extend.is (on_ok_weaker c.extend.result (λ after. change_is c.args.sets.now c.place-in-Extend.result c.in-Extend.name c.index-sets-place-in-Extend.result c.extend.new.set (λ s. put_all s (elements_before_greatest c.in-Extend.items)) c.told-sets c.place-in-Extend.ensures.within c.place-in-Extend.ensures.place after) c.extend.ensures.after)

pub returns-in-Extend-clause-fails : goal.returns-in-Extend-clause-fails
returns-in-Extend-clause-fails g c =
    let there = set_at c.args.sets.now c.place-in-Extend.result c.in-Extend.name c.index-sets-place-in-Extend.result c.told-sets c.place-in-Extend.ensures.within c.place-in-Extend.ensures.place in
    rw c.in-Extend.is (on_err_weaker c.extend.result (λ refused. (refused.0, refused.1, refused.2, refused.3, ap (λ s. has (put_all s refused.0) refused.1) there ∙ refused.4, change_is c.args.sets.now c.place-in-Extend.result c.in-Extend.name c.index-sets-place-in-Extend.result c.extend.new.set (λ s. put_all s refused.0) c.told-sets c.place-in-Extend.ensures.within c.place-in-Extend.ensures.place refused.5)) c.extend.ensures.fails)

pub returns-in-Truncate-clause-sets : goal.returns-in-Truncate-clause-sets
returns-in-Truncate-clause-sets g c =
    rw c.in-Truncate.is (change_is c.args.sets.now c.place-in-Truncate.result c.in-Truncate.name c.index-sets-place-in-Truncate.result c.truncate.new.self (λ s. those_below s c.in-Truncate.n) c.told-sets c.place-in-Truncate.ensures.within c.place-in-Truncate.ensures.place c.truncate.ensures.elements)

pub returns-in-Empty-clause-sets : goal.returns-in-Empty-clause-sets
returns-in-Empty-clause-sets g c =
    rw c.in-Empty.is (change_is c.args.sets.now c.place-in-Empty.result c.in-Empty.name c.index-sets-place-in-Empty.result c.make_empty.new.self (λ _. []) c.told-sets c.place-in-Empty.ensures.within c.place-in-Empty.ensures.place c.make_empty.ensures.elements)

pub returns-in-Reset-clause-sets : goal.returns-in-Reset-clause-sets
returns-in-Reset-clause-sets g c =
    rw c.in-Reset.is (change_is c.args.sets.now c.place-in-Reset.result c.in-Reset.name c.index-sets-place-in-Reset.result c.reset.new.self (λ _. []) c.told-sets c.place-in-Reset.ensures.within c.place-in-Reset.ensures.place (ap (λ bits. elements bits.values) c.reset.ensures.whole))

pub returns-in-Reserve-clause-sets : goal.returns-in-Reserve-clause-sets
returns-in-Reserve-clause-sets g c =
    rw c.in-Reserve.is (on_ok_weaker c.reserve.result (λ after. no_change_is c.args.sets.now c.place-in-Reserve.result c.index-sets-place-in-Reserve.result c.reserve.new.set c.told-sets c.place-in-Reserve.ensures.within after) c.reserve.ensures.after)

pub returns-in-Reserve-clause-fails : goal.returns-in-Reserve-clause-fails
returns-in-Reserve-clause-fails g c =
    rw c.in-Reserve.is (refused_at c.reserve.result c.args.sets.now c.place-in-Reserve.result c.in-Reserve.name c.index-sets-place-in-Reserve.result c.reserve.new.set (λ s. bound_of s < c.in-Reserve.n) c.told-sets c.place-in-Reserve.ensures.within c.place-in-Reserve.ensures.place (ap elements_of) c.reserve.ensures.fails)

pub returns-in-ReserveExact-clause-sets : goal.returns-in-ReserveExact-clause-sets
returns-in-ReserveExact-clause-sets g c =
    rw c.in-ReserveExact.is (on_ok_weaker c.reserve_exact.result (λ after. no_change_is c.args.sets.now c.place-in-ReserveExact.result c.index-sets-place-in-ReserveExact.result c.reserve_exact.new.set c.told-sets c.place-in-ReserveExact.ensures.within after) c.reserve_exact.ensures.after)

pub returns-in-ReserveExact-clause-fails : goal.returns-in-ReserveExact-clause-fails
returns-in-ReserveExact-clause-fails g c =
    rw c.in-ReserveExact.is (refused_at c.reserve_exact.result c.args.sets.now c.place-in-ReserveExact.result c.in-ReserveExact.name c.index-sets-place-in-ReserveExact.result c.reserve_exact.new.set (λ s. bound_of s < c.in-ReserveExact.n) c.told-sets c.place-in-ReserveExact.ensures.within c.place-in-ReserveExact.ensures.place (ap elements_of) c.reserve_exact.ensures.fails)

pub returns-in-Shrink-clause-sets : goal.returns-in-Shrink-clause-sets
returns-in-Shrink-clause-sets g c =
    rw c.in-Shrink.is (on_ok_weaker c.shrink.result (λ after. no_change_is c.args.sets.now c.place-in-Shrink.result c.index-sets-place-in-Shrink.result c.shrink.new.set c.told-sets c.place-in-Shrink.ensures.within after) c.shrink.ensures.after)

pub returns-in-Shrink-clause-fails : goal.returns-in-Shrink-clause-fails
returns-in-Shrink-clause-fails g c =
    rw c.in-Shrink.is (refused_at c.shrink.result c.args.sets.now c.place-in-Shrink.result c.in-Shrink.name c.index-sets-place-in-Shrink.result c.shrink.new.set (λ s. s ≢ []) c.told-sets c.place-in-Shrink.ensures.within c.place-in-Shrink.ensures.place (λ e. e) c.shrink.ensures.fails)
