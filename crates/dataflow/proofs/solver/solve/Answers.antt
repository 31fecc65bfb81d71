use Rattle.std.proofs.Common.{◌≡◌, ◌++◌, map, drop, length, take, arith}
use Rattle.dataflow.specs.Flow.{lists_of}
use Rattle.dataflow.proofs.{FlowLemmas.{are_reached, is_least}, SettleLemmas.first_way, TakeLemmas.written_back}
use Rattle.dataflow.proofs.solver.solve.Goals as goal

pub settle-requires-clause-sets : goal.settle-requires-clause-sets
settle-requires-clause-sets g c =
    rw c.as_mut_slice.ensures.value (first_way g.N.Block.flow c.args.blocks.now
    (lists_of c.in_ok-sets.sets.items) c.in_ok-sets.ensures.generated c.in_ok-sets.ensures.few)

pub returns-clause-solution : goal.returns-clause-solution
returns-clause-solution g c =
    let sets = c.in_ok-sets.sets in
    let new = c.settle.new.sets in
    let as_long = c.settle.auto.sets in
    let len = sets.ok in
    let value = c.as_mut_slice.ensures.len in
    let whole : take sets.len (new ++ drop (length new) sets.items) ≡ new = written_back new (drop (length new) sets.items) sets.len (omega (arith, as_long, len, value)) in
    rw whole (is_least (map g.N.Block.flow c.args.blocks.now) (lists_of new) c.in_ok-settle.ensures.settled c.in_ok-settle.ensures.sets.sound)

pub returns-clause-reached : goal.returns-clause-reached
returns-clause-reached g c =
    let sets = c.in_ok-sets.sets in
    let new = c.settle.new.sets in
    let as_long = c.settle.auto.sets in
    let len = sets.ok in
    let value = c.as_mut_slice.ensures.len in
    let whole : take sets.len (new ++ drop (length new) sets.items) ≡ new = written_back new (drop (length new) sets.items) sets.len (omega (arith, as_long, len, value)) in
    rw whole (are_reached (map g.N.Block.flow c.args.blocks.now) (lists_of new) c.in_ok-settle.ensures.settled c.in_ok-settle.ensures.sets.sound)
