use Rattle.std.proofs.Common.{◌≡◌, ℕ, ◌&&◌, ◌≤◌, max, not, nat_le, nat_lt}
use Rattle.bit_set.specs.Sets.{elements, has, IsAscending}
use Rattle.uses.proofs.complements.free_ports.Given as goal

-- the free ports below the next one are in the list, and nothing else, in ascending order
abbrev pub invariant-loop-port : goal.invariant-loop-port
invariant-loop-port g l = record {
  members : (x : ℕ) → has l.ports.items x
      ≡ (nat_le l.low x && nat_lt x l.port && not (has (elements l.used.values) x));
  ascends : IsAscending l.ports.items;
  within : l.port ≤ max l.low l.high;
}
