use Rattle.std.{specs.List.list_any, proofs.Common.{◌≡◌, ℕ, ◌+◌, ◌&&◌, ◌||◌, ◌==◌, not}}
use Rattle.bit_set.specs.Sets.{elements, has}
use Rattle.uses.proofs.filling.remove_pairs.Given as goal

-- what is left of the firsts has still to be taken out
abbrev pub invariant-loop-first : goal.invariant-loop-first
invariant-loop-first g l = record {
  can_next : (goal.iterator-loop-first g).can_next l.first-iterator;
  finite : (goal.iterator-loop-first g).is_finite l.first-iterator;
  members : (x : ℕ) → (has (elements l.set.values) x && not (list_any (λ first. first == x || first + 1 == x) l.first-iterator.left))
      ≡ (has (elements l.fn.set.values) x && not (list_any (λ first. first == x || first + 1 == x) (elements l.firsts.values)));
}
