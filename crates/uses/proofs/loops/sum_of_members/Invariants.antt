use Rattle.std.proofs.Common.{◌≡◌, ◌+◌, sum}
use Rattle.bit_set.specs.Sets.{elements}
use Rattle.uses.proofs.loops.sum_of_members.Given as goal

-- the total, and what is left
abbrev pub invariant-loop-member : goal.invariant-loop-member
invariant-loop-member g l = record {
  can_next : (goal.iterator-loop-member g).can_next l.member-iterator;
  finite : (goal.iterator-loop-member g).is_finite l.member-iterator;
  rest : l.total + sum l.member-iterator.left ≡ sum (elements l.set.values);
}
