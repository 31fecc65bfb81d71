use Rattle.std.proofs.Common.{◌≡◌, ℕ, ◌+◌, ◌<◌, ◌≤◌, IsTrue, length, get_or, false, if◌then◌else◌}
use Rattle.bit_set.specs.{Bits.Bits, Members.IsSubset, Sets.{elements, has}}
use Rattle.uses.specs.Rows.{ReachesOnly}
use Rattle.uses.proofs.worklists.take_in_rows.Given as goal

abbrev pub invariant-loop-at : goal.invariant-loop-at
invariant-loop-at g l = record {
  more : IsSubset (elements l.fn.set.values) (elements l.set.values);
  closed : l.grew ≡ false → (x : ℕ) (d : Bits) → x < l.at → IsTrue (has (elements l.set.values) x) → IsSubset (elements (get_or l.rows x d).values) (elements l.set.values);
  least : ReachesOnly l.rows (elements l.fn.set.values) (elements l.set.values);
  count : length (elements l.fn.set.values) + (if l.grew then 1 else 0) ≤ length (elements l.set.values);
}
