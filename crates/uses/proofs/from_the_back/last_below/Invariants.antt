use Rattle.std.{specs.Iterator.Adapters.rev_source, proofs.Common.{◌≡◌, ℕ, ◌<◌}}
use Rattle.bit_set.specs.Sets.{elements, has}
use Rattle.uses.proofs.from_the_back.last_below.Given as goal

-- each member below n is left
abbrev pub invariant-loop-member : goal.invariant-loop-member
invariant-loop-member g l = record {
  can_next : (goal.iterator-loop-member g).can_next l.member-iterator;
  finite : (goal.iterator-loop-member g).is_finite l.member-iterator;
  rest : (x : ℕ) → x < l.n → has (rev_source l.member-iterator).left x ≡ has (elements l.set.values) x;
}
