-- Commands that change a set by another.
use Rattle.std.specs.Prelude.{ℕ, ◌<◌, List, []}
use Rattle.bit_set.specs.Sets.{merge_of_sets, those_below, those_from, union}
use Rattle.bit_set_commands.specs.declared.commands.Command.{Command}
use Rattle.bit_set_commands.specs.declared.commands.Command.TheVariants.{Copy as CopyOf, InPlace, Append as AppendOf, SplitOff as SplitOffOf}
use Rattle.bit_set_run.specs.declared.pairs.PairChange.{PairChange}
use Rattle.bit_set_run.specs.declared.pairs.PairChange.TheVariants.{Copy, Merge, Append, SplitOff}

-- the command that does so to the set of a name and that of another
abbrev pub command_of : PairChange → (to from : ℕ) → Command
command_of Copy to from = CopyOf from to
command_of (Merge merge) to from = InPlace merge to from
command_of Append to from = AppendOf to from
command_of (SplitOff n) to from = SplitOffOf to n from

-- what these two sets become
abbrev pub pair_after : PairChange → List ℕ → List ℕ → List ℕ × List ℕ
pair_after Copy set other = (other, other)
pair_after (Merge merge) set other = (merge_of_sets merge set other, other)
pair_after Append set other = (union set other, [])
pair_after (SplitOff n) set other = (those_below set n, those_from set n)

-- whether it may ask for memory
abbrev pub MayAsk : PairChange → Type 0
MayAsk (SplitOff n) = 0 < n
MayAsk change = Unit {0}
