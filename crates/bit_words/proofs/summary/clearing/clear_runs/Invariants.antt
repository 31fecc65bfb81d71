use Rattle.std.proofs.Common.{◌*◌, ◌-◌, ◌≤◌, length}
use Rattle.bit_words.specs.Summary.{AreCleared}
use Rattle.bit_words.proofs.summary.clearing.clear_runs.Given as goal

-- the chunks that were passed are 0, and the others as they were
abbrev pub invariant-loop-q : goal.invariant-loop-q
invariant-loop-q g l =
    let w = g.B.BitBlock.width in
    record {
      forward : l.first ≤ l.q;
      within : l.q ≤ length l.summary;
      cleared : AreCleared g.B.BitBlock.number g.B.BitBlock.is_block (l.first * w) (l.q * w) l.fn.blocks l.blocks;
    }

abbrev pub decreases-loop-q : goal.decreases-loop-q
decreases-loop-q g l = length l.summary - l.q
