use Rattle.std.proofs.Common.{◌≡◌, ℕ, ◌||◌}
use Rattle.bit_set.specs.Sets.{elements, has}
use Rattle.uses.proofs.loops.insert_members.Given as goal

-- with what is left of the other it is the union
abbrev pub invariant-loop-member : goal.invariant-loop-member
invariant-loop-member g l = record {
  can_next : (goal.iterator-loop-member g).can_next l.member-iterator;
  finite : (goal.iterator-loop-member g).is_finite l.member-iterator;
  rest : (x : ℕ) → (has (elements l.set.values) x || has l.member-iterator.left x) ≡ (has (elements l.fn.set.values) x || has (elements l.other.values) x);
}
