use Rattle.std.proofs.Common.{◌≡◌, length, map, take}
use Rattle.bit_set.specs.Sets.{elements}
use Rattle.dataflow.specs.Availability.{flow_of, missing_flow}
use Rattle.dataflow.proofs.expressions.missing_blocks.Given as goal

abbrev pub invariant-loop-block : goal.invariant-loop-block
invariant-loop-block g l = map flow_of l.missing_blocks.items ≡ map (missing_flow (length l.blocks) (elements l.all.values)) (take l.block-index l.blocks)
