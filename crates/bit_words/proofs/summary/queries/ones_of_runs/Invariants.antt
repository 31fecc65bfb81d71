use Rattle.std.proofs.Common.{◌≡◌, ◌*◌, ◌-◌, ◌≤◌, length, take}
use Rattle.bit_blocks.specs.Storage.{ones_in}
use Rattle.bit_words.proofs.summary.queries.ones_of_runs.Given as goal

-- the chunks that were passed are counted
abbrev pub invariant-loop-q : goal.invariant-loop-q
invariant-loop-q g l = record {
  within : l.q ≤ length l.summary;
  counted : l.ones ≡ ones_in g.B.BitBlock.number (take (l.q * g.B.BitBlock.width) l.blocks);
}

abbrev pub decreases-loop-q : goal.decreases-loop-q
decreases-loop-q g l = length l.summary - l.q
