use Rattle.std.proofs.Common.{◌≡◌, length, map}
use Rattle.bit_set.specs.Indexes.{indexes, values_in}
use Rattle.bit_matrix.specs.Walks.{IsRowWalk}
use Rattle.bit_matrix.proofs.walk.IterIterator.next.Given as goal

-- the same is left
abbrev pub invariant-loop-self : goal.invariant-loop-self
invariant-loop-self g l =
    let w = g.B.BitBlock.width in
    let it = l.self-inside in
    record {
      walk : IsRowWalk w g.B.BitBlock.number g.B.BitBlock.is_block it.rest.now it.block it.index;
      left : indexes w it.index (g.B.BitBlock.number it.block) (values_in w (map g.B.BitBlock.number it.rest.now)) ≡ l.fn.self;
    }

abbrev pub decreases-loop-self : goal.decreases-loop-self
decreases-loop-self g l = length l.self-inside.rest.now
