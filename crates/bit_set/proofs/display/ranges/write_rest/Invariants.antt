use Rattle.std.{proofs.Common.{◌≡◌, ℕ, List, ◌++◌}, specs.{Prelude.codes, List.flat_map, Fmt.{HasWritten, IsPlainFormatter}}}
use Rattle.set_algebra.specs.Runs.{runs_of}
use Rattle.bit_set.specs.RangeTexts.{run_text}
use Rattle.bit_set.proofs.display.ranges.write_rest.Given as goal

-- what is written and what is left, each run with its comma, are the text
abbrev pub invariant-loop-run : goal.invariant-loop-run
invariant-loop-run g l =
    IsPlainFormatter l.fn.f
    → (done : List ℕ) × HasWritten g.W.Write.write_str_gives l.fn.f done l.f
    × (done ++ flat_map (λ run. codes ", " ++ run_text run) (runs_of l.run-iterator.members) ≡ flat_map (λ run. codes ", " ++ run_text run) (runs_of l.fn.rest.members))
