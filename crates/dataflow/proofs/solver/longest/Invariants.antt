use Rattle.std.{specs.List.fold, proofs.Common.{◌≡◌, max, take}}
use Rattle.dataflow.proofs.solver.longest.Given as goal

abbrev pub invariant-loop-block : goal.invariant-loop-block
invariant-loop-block g l = l.longest ≡ fold (λ most block. max most (g.N.Block.generated_length block)) 0 (take l.block-index l.blocks)
