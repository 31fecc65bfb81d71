use Rattle.std.proofs.Common.{◌≡◌, ℕ, ◌+◌, ◌*◌, ◌<◌, ◌≤◌, false, length, get_or, take}
use Rattle.bit_set.specs.Many.{merged_at}
use Rattle.bit_set.proofs.set.of_many.merge_chunk.Given as goal

-- the sets so far are merged into the chunk
abbrev pub invariant-loop-set : goal.invariant-loop-set
invariant-loop-set g l = record {
  len : length l.bits.values ≡ length l.fn.bits.values;
  inside : (i : ℕ) → l.chunk * g.B.BitBlock.width * g.B.BitBlock.width ≤ i
      → i < (l.chunk + 1) * g.B.BitBlock.width * g.B.BitBlock.width
      → get_or l.bits.values i false ≡ merged_at l.merge (take l.set-index l.sets) i (get_or l.fn.bits.values i false);
  before : (i : ℕ) → i < l.chunk * g.B.BitBlock.width * g.B.BitBlock.width
      → get_or l.bits.values i false ≡ get_or l.fn.bits.values i false;
  after : (i : ℕ) → (l.chunk + 1) * g.B.BitBlock.width * g.B.BitBlock.width ≤ i
      → get_or l.bits.values i false ≡ get_or l.fn.bits.values i false;
  capacity : l.bits.capacity ≡ l.fn.bits.capacity;
}
