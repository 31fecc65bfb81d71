use Rattle.std.proofs.Common.{◌≡◌, take}
use Rattle.bit_set.specs.Sets.{elements}
use Rattle.dataflow.specs.Worklist.{PutsBack, place_of}
use Rattle.dataflow.proofs.waiting.put_back.Given as goal

abbrev pub invariant-loop-dependent : goal.invariant-loop-dependent
invariant-loop-dependent
    l = record { back : PutsBack (take l.dependent-index l.dependents) (place_of l.count l.from_last) (elements l.fn.waiting.values) (elements l.waiting.values); capacity : l.waiting.capacity ≡ l.fn.waiting.capacity }
