use Rattle.std.{proofs.Common.{◌≡◌, ◌+◌, length}, specs.Option.option_map_or}
use Rattle.set_algebra.specs.Sets.{elements}
use Rattle.bit_set.{specs.RangeReading.items_left, proofs.RangeTextLemmas.Fills}
use Rattle.bit_set.proofs.set.BitSet.insert_ranges.Given as goal

-- what was put in and what is left are the text
abbrev pub invariant-items : goal.invariant-items
invariant-items g l = record {
  fills : Fills l.text (items_left l.rest) (length l.fn.self.values) (elements l.self.values);
  len : length l.self.values ≡ length l.fn.self.values;
  capacity : l.self.capacity ≡ l.fn.self.capacity;
}

abbrev pub decreases-items : goal.decreases-items
decreases-items g l = option_map_or (λ text. length text.now + 1) l.rest 0
