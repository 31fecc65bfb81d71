use Rattle.std.proofs.Common.{◌≡◌, ℕ, false, get_or, length, take}
use Rattle.bit_blocks.specs.{Bits.{blocks_for, capacity_of}, Storage.value_at}
use Rattle.bit_set.specs.Entries.{numbers_of}
use Rattle.bit_set.proofs.json.growing.bits_of_entries.Given as goal

-- the bits are those of the first k entries, and false past them
abbrev pub invariant-loop-k : goal.invariant-loop-k
invariant-loop-k g l = record {
  filled : (i : ℕ) → get_or l.bits.values i false ≡ value_at g.B.BitBlock.width (take l.k (numbers_of l.entries)) i;
  long : length l.bits.values ≡ l.len;
  capacity : l.bits.capacity ≡ capacity_of g.B.BitBlock.width (blocks_for g.B.BitBlock.width l.len);
}
