use Rattle.std.proofs.Common.{◌≡◌, ◌+◌, ◌≤◌, drop, map}
use Rattle.dataflow.specs.Worklist.{flowing_back}
use Rattle.dataflow.proofs.waiting.flows_back.Given as goal

abbrev pub invariant-loop-number : goal.invariant-loop-number
invariant-loop-number g l = record {
  counted : l.flowing + flowing_back l.number (drop l.number (map g.N.Block.flow l.blocks)) ≡ flowing_back 0 (map g.N.Block.flow l.blocks);
  few : l.flowing ≤ l.number;
}
