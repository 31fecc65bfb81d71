use Rattle.std.proofs.Common.{◌≡◌, ◌<◌, ◌≤◌, All, length, max}
use Rattle.set_algebra.specs.Sets.{bound_of}
use Rattle.bit_set.{proofs.ItemLemmas.IsAhead, specs.declared.set.changing.TheConstants.LEAST_GROWN}
use Rattle.bit_set.proofs.set.BitSet.extend.Given as goal

abbrev pub invariant-loop-item : goal.invariant-loop-item
invariant-loop-item g l = record {
  len : l.len ≡ length l.self.values;
  ahead : IsAhead LEAST_GROWN l.yielded l.fn.self.values l.self.values;
  capacity : l.fn.self.capacity ≤ l.self.capacity;
  within : All
      (λ item. item < l.fn.self.capacity) l.yielded → l.self.capacity ≡ l.fn.self.capacity;
  kept : max (length l.fn.self.values) (bound_of l.yielded) ≤ l.fn.self.capacity → l.self.capacity ≡ l.fn.self.capacity;
}
