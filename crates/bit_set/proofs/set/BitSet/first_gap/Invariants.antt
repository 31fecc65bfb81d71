use Rattle.std.proofs.Common.{◌≡◌, ℕ, ◌-◌, ◌^◌, ◌<◌, ◌≤◌, max, false, length}
use Rattle.set_algebra.specs.{Gaps.IsGap, Sets.{elements, has}}
use Rattle.bit_set.proofs.set.BitSet.first_gap.Given as goal

-- the number is missing, and no gap that is wide enough begins before it
abbrev pub invariant-loop-element : goal.invariant-loop-element
invariant-loop-element g l = record {
  missing : has (elements l.self.values) l.gap ≡ false;
  reached : l.fn.from ≤ l.gap;
  none : (h : ℕ) → l.fn.from ≤ h → h < l.gap → ¬ IsGap (elements l.self.values) l.fn.count h;
  within : l.gap ≤ max l.fn.from (length l.self.values);
}

abbrev pub decreases-loop-element : goal.decreases-loop-element
decreases-loop-element g l = 2 ^ 64 - l.gap
