use Rattle.std.proofs.Common.{◌≡◌, ◌+◌, ◌<◌, ◌∷◌, ◌++◌, [], true, get_or, length, take, ◌∙◌, arith}
use Rattle.std.proofs.lemmas.List.{take_more}
use Rattle.bit_set.specs.{Members.Updates, Sets.elements}
use Rattle.dataflow.{specs.Worklist.place_of, proofs.{SettleLemmas.puts_on, TakeLemmas.at_member}}
use Rattle.dataflow.proofs.waiting.put_back.Goals as goal

pub place-requires : goal.place-requires
place-requires c = c.requires.inside _ (at_member c.args.dependents.now c.loop-dependent.dependent-index (omega arith))

pub loop-dependent-preserved : goal.loop-dependent-preserved
loop-dependent-preserved c =
    let dependents = c.args.dependents.now in
    let count = c.args.count in
    let i = c.loop-dependent.dependent-index in
    let x = get_or dependents i 0 in
    let inside : i < length dependents = omega arith in
    let longer : take (i + 1) dependents ≡ take i dependents ++ x ∷ [] = take_more dependents i 0 inside in
    let updates : Updates (elements c.loop-dependent.waiting.values) (elements c.insert.new.self.values)
    (place_of count c.args.from_last x) true = rw (c.unwrap.ensures, c.place.ensures.value) at c.insert.ensures.members in
    let below = c.place.ensures.inside in
    let same = c.loop-dependent.invariant.capacity in
    let enough = c.requires.capacity in
    record {
      back = rw longer (puts_on (place_of count c.args.from_last) (take i dependents) _ _ _ x c.loop-dependent.invariant.back updates);
      capacity = c.insert.ensures.grows.grows.within (omega (arith, below, same, enough)) ∙ same;
    }
