use Rattle.std.proofs.Common.{◌≡◌, ℕ, ◌%◌, ◌==◌, ◌&&◌, ◌||◌, not}
use Rattle.bit_set.specs.Sets.{elements, has}
use Rattle.uses.proofs.filtering.part.Given as goal

abbrev pub invariant-loop-member : goal.invariant-loop-member
invariant-loop-member g l = record {
  can_next : (goal.iterator-loop-member g).can_next l.member-iterator;
  finite : (goal.iterator-loop-member g).is_finite l.member-iterator;
  even : (x : ℕ) → (has (elements l.even.values) x || (has l.member-iterator.left x && x % 2 == 0)) ≡ (has (elements l.fn.even.values) x || (has (elements l.set.values) x && x % 2 == 0));
  odd : (x : ℕ) → (has (elements l.odd.values) x || (has l.member-iterator.left x && not (x % 2 == 0))) ≡ (has (elements l.fn.odd.values) x || (has (elements l.set.values) x && not (x % 2 == 0)));
}
