use Rattle.std.proofs.Common.{◌≡◌, ℕ, ◌<◌, ◌≤◌, ◌↔◌, IsTrue, length}
use Rattle.bit_set.specs.Sets.{elements, has}
use Rattle.automata.specs.{Building.Meets, Numbering.set_of}
use Rattle.automata.proofs.subsets.accepting_numbers.Given as goal

abbrev pub invariant-loop-number : goal.invariant-loop-number
invariant-loop-number g l = record {
  end : l.number-end ≡ length l.numbering;
  capacity : length l.numbering ≤ l.numbers.capacity;
  members : (i : ℕ) → IsTrue (has (elements l.numbers.values) i) ↔ ((i < l.number) × Meets (set_of l.numbering i) l.nfa.accepting);
}
