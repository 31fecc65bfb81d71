use Rattle.std.proofs.Common.{◌≤◌, vec_capacity}
use Rattle.bit_set_run.proofs.RunLemmas.{HasRun}
use Rattle.bit_set_run.proofs.running.run.Given as goal

abbrev pub invariant-loop-place : goal.invariant-loop-place
invariant-loop-place g l = record {
  done : HasRun l.place l.commands l.fn.table l.table l.fn.replies.items l.replies.items;
  capacity : vec_capacity l.fn.replies ≤ vec_capacity l.replies;
}
