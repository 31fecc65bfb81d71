use Rattle.std.proofs.Common.{arith}
use Rattle.automata.proofs.BuildLemmas.{place_inside}
use Rattle.automata.proofs.dfa.Dfa.step.Goals as goal

pub index-requires : goal.index-requires
index-requires g c =
    let it = c.self.inside in
    let place = place_inside it.states it.symbols it.next.items c.args.state c.args.symbol c.self.invariant (omega arith) (omega arith) in
    omega (arith, place)

pub overflow_mul-state : goal.overflow_mul-state
overflow_mul-state g c =
    let it = c.self.inside in
    let place = place_inside it.states it.symbols it.next.items c.args.state c.args.symbol c.self.invariant (omega arith) (omega arith) in
    omega (arith, place)

pub overflow_add-state : goal.overflow_add-state
overflow_add-state g c =
    let it = c.self.inside in
    let place = place_inside it.states it.symbols it.next.items c.args.state c.args.symbol c.self.invariant (omega arith) (omega arith) in
    omega (arith, place)
