use Rattle.std.proofs.Common.{◌≡◌, ◌+◌, ◌-◌, ◌≤◌}
use Rattle.bit_blocks.specs.Bits.{blocks_for}
use Rattle.bit_words.specs.Pending.{IsPending, left_from, next_at}
use Rattle.bit_words.proofs.bit_vec.nonzero.Nonzero.take_first.Given as goal

-- the same is left, and what was pulled came out of the summary
abbrev pub invariant-loop-k : goal.invariant-loop-k
invariant-loop-k g l =
    let w = g.B.BitBlock.width in
    let number = g.B.BitBlock.number in
    let it = l.self-inside in
    let xs = it.blocks.now in
    record {
      walk : IsPending w number g.B.BitBlock.is_block it.pending.index it.pending.end it.pending.bits xs it.pending.summary.left;
      same : left_from number (next_at w it.pending.index (number it.pending.bits)) it.pending.end xs ≡ l.fn.self.left;
      kept : xs ≡ l.fn.self.blocks;
      counted : it.steps ≡ l.fn.self.pulls;
      pulled : it.pending.summary.pulls + blocks_for w (it.pending.end - (it.pending.index + w)) ≡ l.fn.self.summary_pulls + l.fn.self.summary_left;
      goes_on : l.fn.self.summary_pulls ≤ it.pending.summary.pulls;
    }

abbrev pub decreases-loop-k : goal.decreases-loop-k
decreases-loop-k g l =
    let it = l.self-inside in
    it.pending.end - next_at g.B.BitBlock.width it.pending.index (g.B.BitBlock.number it.pending.bits)
