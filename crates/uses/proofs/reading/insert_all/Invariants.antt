use Rattle.std.proofs.Common.{ℕ, ◌<◌, length, take, get_or}
use Rattle.bit_set.specs.{Members.IsUnion, Sets.elements}
use Rattle.uses.proofs.reading.insert_all.Given as goal

abbrev pub invariant-loop-item : goal.invariant-loop-item
invariant-loop-item g l = (k : ℕ) → k < l.item-index → get_or l.items k 0 < l.len

abbrev pub invariant-loop-item-2 : goal.invariant-loop-item-2
invariant-loop-item-2 g l = record {
  members : IsUnion (elements l.fn.set.values) (take l.item-index l.items) (elements l.set.values);
  fit : (k : ℕ) → k < length l.items → get_or l.items k 0 < l.set.capacity;
}
