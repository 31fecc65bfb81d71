use Rattle.std.proofs.Common.{◌≡◌, ℕ, ◌-◌, ◌*◌, ◌/◌, ◌^◌, ◌<◌, ◌≤◌, length}
use Rattle.set_algebra.specs.Sets.{elements, those_from}
use Rattle.bit_set.specs.Retained.{HasTested}
use Rattle.bit_set.proofs.set.BitSet.retain.Given as goal

-- the members below `from`, where a block begins, were tested
abbrev pub invariant-loop-value : goal.invariant-loop-value
invariant-loop-value g l = record {
  callable : goal.F-IsAlwaysCallable g l.keep;
  tested : HasTested (λ state value passed next. goal.F-step g state value passed next) l.fn.keep
      (elements l.fn.self.values) l.keep (elements l.self.values) (those_from (elements l.self.values) l.from);
  long : length l.self.values ≡ length l.fn.self.values;
  capacity : l.self.capacity ≡ l.fn.self.capacity;
  at_block : l.from < 2 ^ 64 - 1 → (i : ℕ) → l.from ≤ i → l.from ≤ i / g.B.BitBlock.width * g.B.BitBlock.width;
}

abbrev pub decreases-loop-value : goal.decreases-loop-value
decreases-loop-value g l = 2 ^ 64 - l.from
