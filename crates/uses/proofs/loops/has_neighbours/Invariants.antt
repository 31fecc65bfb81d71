use Rattle.std.proofs.Common.{◌≡◌, ℕ, ◌+◌, true}
use Rattle.bit_set.specs.Sets.{elements, has}
use Rattle.uses.proofs.loops.has_neighbours.Given as goal

-- each member that has the number after it is left
abbrev pub invariant-loop-member : goal.invariant-loop-member
invariant-loop-member g l = record {
  can_next : (goal.iterator-loop-member g).can_next l.member-iterator;
  finite : (goal.iterator-loop-member g).is_finite l.member-iterator;
  rest : (x : ℕ) → has (elements l.set.values) (x + 1) ≡ true → has l.member-iterator.left x ≡ has (elements l.set.values) x;
}
