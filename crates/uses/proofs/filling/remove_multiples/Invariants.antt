use Rattle.std.proofs.Common.{◌≡◌, ℕ, ◌-◌, ◌%◌, ◌==◌, ◌&&◌, not, nat_lt}
use Rattle.bit_set.specs.Sets.{elements, has}
use Rattle.uses.proofs.filling.remove_multiples.Given as goal

-- the multiples before the next one are out
abbrev pub invariant-loop-multiple : goal.invariant-loop-multiple
invariant-loop-multiple g l = record {
  multiple : l.multiple % l.step ≡ 0;
  members : (x : ℕ) → has (elements l.set.values) x
      ≡ (has (elements l.fn.set.values) x && not (nat_lt x l.multiple && nat_lt x l.end && x % l.step == 0));
}

abbrev pub decreases-loop-multiple : goal.decreases-loop-multiple
decreases-loop-multiple g l = l.end - l.multiple
