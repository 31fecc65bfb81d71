use Rattle.std.proofs.Common.{◌≡◌, ◌+◌, ◌-◌, ◌≤◌}
use Rattle.bit_blocks.specs.Bits.{blocks_for}
use Rattle.bit_words.specs.Pending.{IsPending, left_from, next_at}
use Rattle.bit_words.proofs.bit_vec.pending.Pending.next_block.Given as goal

-- the same is left, and what was pulled came out of the summary
abbrev pub invariant-loop-self : goal.invariant-loop-self
invariant-loop-self g l =
    let w = g.B.BitBlock.width in
    let number = g.B.BitBlock.number in
    let at = next_at w l.self.index (number l.self.bits) in
    let from = next_at w l.fn.self.index (number l.fn.self.bits) in
    record {
      walk : IsPending w number g.B.BitBlock.is_block l.self.index l.self.end l.self.bits l.blocks l.self.summary.left;
      end : l.self.end ≡ l.fn.self.end;
      same : left_from number from l.self.end l.blocks ≡ left_from number at l.self.end l.blocks;
      onward : from ≤ at;
      pulled : l.self.summary.pulls + blocks_for w (l.self.end - (l.self.index + w)) ≡ l.fn.self.summary.pulls + blocks_for w (l.self.end - (l.fn.self.index + w));
      goes_on : l.fn.self.summary.pulls ≤ l.self.summary.pulls;
    }

abbrev pub decreases-loop-self : goal.decreases-loop-self
decreases-loop-self g l = l.self.end - l.self.index
