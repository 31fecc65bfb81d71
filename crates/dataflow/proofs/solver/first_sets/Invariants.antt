use Rattle.std.proofs.Common.{◌≡◌, ℕ, ◌^◌, ◌<◌, length, map, take}
use Rattle.dataflow.specs.Flow.{lists_of, set_at}
use Rattle.dataflow.proofs.solver.first_sets.Given as goal

abbrev pub invariant-loop-block : goal.invariant-loop-block
invariant-loop-block g
    l = record { generated : lists_of l.sets.items ≡ map (λ block. (g.N.Block.flow block).generated) (take l.block-index l.blocks); few : (b : ℕ) → length (set_at (lists_of l.sets.items) b) < 2 ^ 64 }
