use Rattle.std.proofs.Common.{ℕ, ◌+◌, ◌*◌, ◌^◌, ◌<◌, ◌≤◌, IsTrue, length, map}
use Rattle.bit_set.specs.Sets.{elements, has}
use Rattle.dataflow.{specs.{Flow.lists_of, Worklist.{AreOnTheWay, place_of}}, proofs.SettleLemmas.{IsSettled, lacking}}
use Rattle.dataflow.proofs.solver.settle.Given as goal

abbrev pub invariant-loop-next : goal.invariant-loop-next
invariant-loop-next g l = record {
  way : AreOnTheWay (map g.N.Block.flow l.blocks) (lists_of l.sets);
  settled : IsSettled (map g.N.Block.flow l.blocks) (place_of l.count l.from_last) (lists_of l.sets) (elements l.waiting.values);
  below : (p : ℕ) → IsTrue (has (elements l.waiting.values) p) → p < l.count;
  capacity : l.count ≤ l.waiting.capacity;
}

abbrev pub decreases-loop-next : goal.decreases-loop-next
decreases-loop-next g l = lacking (lists_of l.sets) * 2 ^ 64 + length (elements l.waiting.values)
