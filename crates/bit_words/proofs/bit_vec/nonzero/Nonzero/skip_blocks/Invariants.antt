use Rattle.std.proofs.Common.{◌≤◌}
use Rattle.bit_words.specs.Nonzero.{SkipsBlocks}
use Rattle.bit_words.proofs.bit_vec.nonzero.Nonzero.skip_blocks.Given as goal

abbrev pub invariant-loop-more : goal.invariant-loop-more
invariant-loop-more g l = record {
  within : l.ones ≤ l.most;
  so : SkipsBlocks g.B.BitBlock.number l.fn.self l.ones l.self;
}

abbrev pub decreases-loop-more : goal.decreases-loop-more
decreases-loop-more g l = l.self.summary_left
