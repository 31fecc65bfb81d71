use Rattle.std.proofs.Common.{◌≡◌, [], length}
use Rattle.bit_set.specs.{Entries.IsPartlyPut, Indexes.indexes}
use Rattle.bit_set.proofs.json.growing.put_ones.Given as goal

-- what was taken off the block is put
abbrev pub invariant-loop-block : goal.invariant-loop-block
invariant-loop-block g l =
    let number = g.B.BitBlock.number in
    record {
      of_block : g.B.BitBlock.is_block l.block;
      put : IsPartlyPut g.B.BitBlock.width l.index (number l.fn.block) (number l.block) l.fn.bits.values l.bits.values;
      capacity : l.bits.capacity ≡ l.fn.bits.capacity;
    }

abbrev pub decreases-loop-block : goal.decreases-loop-block
decreases-loop-block g l = length (indexes g.B.BitBlock.width 0 (g.B.BitBlock.number l.block) [])
