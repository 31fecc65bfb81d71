use Rattle.std.proofs.Common.{◌≡◌}
use Rattle.bit_set.specs.Sets.{elements}
use Rattle.c_handles.specs.Hash.{state_after}
use Rattle.bit_set_c.proofs.reading.hash_members.Given as goal

-- the state, and what is left
abbrev pub invariant-loop-member : goal.invariant-loop-member
invariant-loop-member l = record {
  can_next : (goal.iterator-loop-member).can_next l.member-iterator;
  finite : (goal.iterator-loop-member).is_finite l.member-iterator;
  rest : state_after l.state l.member-iterator.left ≡ state_after 1 (elements l.set.values);
}
