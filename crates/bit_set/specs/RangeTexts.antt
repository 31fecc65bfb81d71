-- The texts of the runs of sets, as Linux writes lists of processors.
use Rattle.std.specs.{Prelude.{ℕ, ◌+◌, ◌-◌, ◌==◌, if◌then◌else◌, List, [], ◌++◌, codes, decimal}, List.join_by}
use Rattle.std.specs.declared.ops.Range.{Range}

-- a run: its number, or the first one and the last one with a hyphen between them
abbrev pub run_text : Range ℕ → List ℕ
run_text r = decimal r.start ++ (if r.start + 1 == r.end then [] else codes "-" ++ decimal (r.end - 1))

-- some runs, joined by a comma and a space
abbrev pub ranges_text : List (Range ℕ) → List ℕ
ranges_text rs = join_by run_text (codes ", ") rs
