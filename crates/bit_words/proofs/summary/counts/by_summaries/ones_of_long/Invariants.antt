use Rattle.std.proofs.Common.{◌≡◌, ◌*◌, ◌-◌, ◌≤◌, map}
use Rattle.bit_words.specs.MergedOnes.{merged_ones}
use Rattle.bit_words.proofs.summary.counts.by_summaries.ones_of_long.Given as goal

-- the groups that were passed are counted
abbrev pub invariant-loop-first : goal.invariant-loop-first
invariant-loop-first g l =
    let number = g.B.BitBlock.number in
    let w = g.B.BitBlock.width in
    record {
      within : l.first ≤ l.both;
      counted : l.ones ≡ merged_ones g.O.Operation.merge w (map number l.blocks) (map number l.others) 0 (l.first * w);
    }

abbrev pub decreases-loop-first : goal.decreases-loop-first
decreases-loop-first g l = l.both - l.first
