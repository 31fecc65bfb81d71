use Rattle.std.proofs.Common.{◌≡◌, ℕ, ◌-◌, ◌<◌, ◌^◌, ◌⊎◌, IsTrue, length, get_or}
use Rattle.bit_set.specs.Sets.{elements, has}
use Rattle.uses.proofs.loops.follow.Given as goal

-- what was met leads to what was met, or here
abbrev pub invariant-loop-seen : goal.invariant-loop-seen
invariant-loop-seen g l = record {
  starts : (l.at ≡ l.fn.start) ⊎ IsTrue (has (elements l.seen.values) l.fn.start);
  closed : (k d : ℕ) → k < length l.next → IsTrue (has (elements l.seen.values) k) → (get_or l.next k d ≡ l.at) ⊎ IsTrue (has (elements l.seen.values) (get_or l.next k d));
}

abbrev pub decreases-loop-seen : goal.decreases-loop-seen
decreases-loop-seen g l = 2 ^ 64 - length (elements l.seen.values)
