use Rattle.std.proofs.Common.{ℕ, ◌-◌, ◌≤◌}
use Rattle.bit_blocks.specs.Highest.{IsHighest, IsFilledDown}
use Rattle.bit_blocks.proofs.block.BitBlock.highest_one.Given as goal

abbrev pub invariant-loop-distance : goal.invariant-loop-distance
invariant-loop-distance g l =
    let number = g.Self.BitBlock.number in
    record {
      of_block : g.Self.BitBlock.is_block l.filled;
      onward : 1 ≤ l.distance;
      filled : (i : ℕ) → IsHighest (number l.fn.self) i → IsFilledDown i l.distance (number l.filled);
    }

abbrev pub decreases-loop-distance : goal.decreases-loop-distance
decreases-loop-distance g l = g.Self.BitBlock.width - l.distance
