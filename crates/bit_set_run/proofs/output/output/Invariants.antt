use Rattle.std.proofs.Common.{◌≡◌, ◌≤◌, ◌++◌, length}
use Rattle.bit_set_commands.specs.Lines.{lines_of}
use Rattle.bit_set_run.{specs.Output.output, proofs.OutputLemmas.output_from}
use Rattle.bit_set_run.proofs.output.output.Given as goal

abbrev pub invariant-loop-line : goal.invariant-loop-line
invariant-loop-line g l = record {
  within : length l.rest ≤ length l.input;
  done : l.text.items ++ output_from l.table (lines_of l.rest) ≡ output l.input;
}

abbrev pub decreases-loop-line : goal.decreases-loop-line
decreases-loop-line g l = length l.rest
