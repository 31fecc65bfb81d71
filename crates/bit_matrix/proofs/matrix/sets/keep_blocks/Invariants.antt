use Rattle.std.proofs.Common.{◌≡◌, ℕ, ◌*◌, ◌<◌, ◌≤◌, true, false, get_or, length, map}
use Rattle.bit_blocks.specs.Storage.{value_at}
use Rattle.bit_matrix.proofs.matrix.sets.keep_blocks.Given as goal

-- the values of the blocks before this one are theirs, and the others true
abbrev pub invariant-loop-k : goal.invariant-loop-k
invariant-loop-k g l = record {
  kept : (i : ℕ) → i < length l.fn.bits.values → i < l.k * g.B.BitBlock.width → get_or l.bits.values i false ≡ value_at g.B.BitBlock.width (map g.B.BitBlock.number l.blocks) i;
  ones : (i : ℕ) → i < length l.fn.bits.values → l.k * g.B.BitBlock.width ≤ i → get_or l.bits.values i false ≡ true;
  len : length l.bits.values ≡ length l.fn.bits.values;
  capacity : l.bits.capacity ≡ l.fn.bits.capacity;
}
