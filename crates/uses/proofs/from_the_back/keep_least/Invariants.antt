use Rattle.std.proofs.Common.{◌≡◌, ℕ, ◌<◌, ◌≤◌, false, length, min, IsTrue}
use Rattle.bit_set.specs.{Members.IsSubset, Sets.{elements, has}}
use Rattle.uses.proofs.from_the_back.keep_least.Given as goal

-- no more are gone than were to go, and what is gone is above what is in
abbrev pub invariant-loop-set : goal.invariant-loop-set
invariant-loop-set g l = record {
  enough : min l.most (length (elements l.fn.set.values)) ≤ length (elements l.set.values);
  no_more : length (elements l.set.values) ≤ length (elements l.fn.set.values);
  kept : IsSubset (elements l.set.values) (elements l.fn.set.values);
  least : (x y : ℕ) → IsTrue (has (elements l.set.values) x)
      → IsTrue (has (elements l.fn.set.values) y) → has (elements l.set.values) y ≡ false → x < y;
}

abbrev pub decreases-loop-set : goal.decreases-loop-set
decreases-loop-set g l = length (elements l.set.values)
